pub mod Numbers
pub mod Books
pub mod Choices
pub mod Rows
