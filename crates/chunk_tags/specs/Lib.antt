pub mod BinOrder
pub mod Dials
pub mod Mallopt
pub mod Pages
pub mod Sizes
pub mod Tiles
pub mod Tunables
