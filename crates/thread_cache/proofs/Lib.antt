pub mod Draining
pub mod CacheLaws
pub mod Kept
