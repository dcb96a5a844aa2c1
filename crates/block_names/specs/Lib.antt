pub use Rattle.chunk_tags.specs.Sizes
pub use Rattle.mapped_chunks.specs.Mappings
pub mod Blocks
pub mod Names
