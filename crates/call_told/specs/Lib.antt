pub mod Obeys
pub mod Deeds
