pub mod Options
pub mod Parts
pub mod Views
pub mod Asked
