pub use Rattle.chunk_tags.specs.Dials
pub use Rattle.address_space.specs.Spaces
pub mod DialPorts
pub mod Mappings
pub mod PlainDials
