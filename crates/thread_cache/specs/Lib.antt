pub use Rattle.chunk_tags.specs.Sizes
pub mod Caches
pub mod Held
pub mod Stacks
