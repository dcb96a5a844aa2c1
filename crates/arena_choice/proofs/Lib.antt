pub mod NumberLaws
pub mod AttachedLaws
pub mod BookLaws
