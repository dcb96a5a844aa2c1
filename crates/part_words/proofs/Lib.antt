mod CodeLaws
mod Filled
mod Filling
mod PageLaws
mod PoolLaws
mod Passing
mod Recoding
mod SlotLaws
mod WordLaws
pub mod Opening
pub mod Seeing
pub mod Updates
