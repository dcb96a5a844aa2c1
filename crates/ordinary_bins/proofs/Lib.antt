mod BitMarks
pub mod ListLaws
mod CodeLaws
mod NodeLinks
mod Marking
mod Paths
mod Reading
mod Search
mod Spelling
mod Steps
