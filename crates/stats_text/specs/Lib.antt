pub mod Appends
pub mod Words
pub mod Records
pub mod AnswerCounts
pub mod Views
pub mod Report
pub mod Totals
pub mod Summary
