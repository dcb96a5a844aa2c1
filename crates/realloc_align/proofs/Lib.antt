pub mod Accounts
pub mod Cuts
pub mod Branches
pub mod Addresses
pub mod Released
pub mod Tails
pub mod Recorded
