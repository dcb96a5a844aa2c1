pub mod Extents
pub mod Pages
pub mod Parts
pub mod Slots
