pub use Rattle.chunk_tags.specs.BinOrder
pub mod FastPorts
pub mod PlainBins
