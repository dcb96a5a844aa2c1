pub use Rattle.chunk_tags.specs.BinOrder
pub use Rattle.chunk_tags.specs.Sizes
pub use Rattle.chunk_tags.specs.Tiles
pub use Rattle.ordinary_bins.specs.Lists
pub mod Places
pub mod SeenChunks
pub mod FirstChunks
