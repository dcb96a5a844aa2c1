pub mod Rising
pub mod Sums
pub mod Replaced
pub mod Reversed
