pub mod Keyed
pub mod Tables
