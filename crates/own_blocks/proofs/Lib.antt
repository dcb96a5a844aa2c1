pub mod Weights
pub mod Calling
pub mod Structures
pub mod LeftCalls
pub mod Supplies
pub mod Releases
pub mod Exits
