mod Resettlings
pub mod Namings
pub mod Handovers
