pub mod Draws
pub mod HeldLaws
pub mod TrayLaws
pub mod TraceLaws
mod Loop
