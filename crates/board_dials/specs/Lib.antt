pub mod DialPlays
pub mod DialEnds
