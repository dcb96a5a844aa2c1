pub use Rattle.chunk_tags.specs.Tiles
pub use Rattle.part_words.specs.Extents
pub mod Heads
pub mod Rows
