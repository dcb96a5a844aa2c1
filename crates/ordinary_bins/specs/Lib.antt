pub use Rattle.part_words.specs.Extents
pub mod BinMaps
pub mod Codes
pub mod Lists
pub mod NodeWords
pub mod Rings
