pub mod Merging
pub mod Cuts
pub mod Pages
pub mod AllArenas
