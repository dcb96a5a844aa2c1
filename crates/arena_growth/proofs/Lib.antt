pub mod Balance
mod Carved
mod Chosen
mod Enough
mod FastBins
pub mod Lifting
pub mod Looks
pub mod Parts
pub mod BinnedLaws
mod Remainders
mod Scanning
mod Shelving
mod SmallBins
mod Endings
pub mod Growing
mod BreakTurns
pub mod MainGrowth
mod HeapGrowth
mod Cutting
mod Mappings
mod Nowhere
pub mod Refusals
mod Systems
mod FirstHeaps
