pub mod Generator
pub mod HeldMarks
