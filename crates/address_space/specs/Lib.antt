pub mod Ports
pub mod Budgets
pub mod Spaces
