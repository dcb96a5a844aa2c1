pub mod Lines
pub mod Listed
pub mod Follows
pub mod Works
