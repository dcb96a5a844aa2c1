pub mod Counting
pub mod Table
pub mod Words
pub mod Written
