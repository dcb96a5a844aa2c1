pub mod Reversed
pub mod PlainSteps
pub mod Reserving
