pub mod ChainHolds
pub mod Facts
pub mod Gathers
pub mod Links
pub mod OwnPush
pub mod Sums
