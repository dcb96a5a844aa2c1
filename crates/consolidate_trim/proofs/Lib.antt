pub mod Merges
pub mod Fewer
pub mod Emptying
pub mod Lifts
pub mod Carried
pub mod Trims
pub mod HeapTrims
pub mod HoldSteps
