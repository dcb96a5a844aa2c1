pub use Rattle.address_space.specs.Ports
pub mod Streams
pub mod InMemory
pub mod Standard
pub mod Input
pub mod Output
