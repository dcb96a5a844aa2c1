mod Ends
pub mod FirstBins
mod FirstLaws
mod Fitting
mod Insertion
pub mod LargeLaws
mod Turns
