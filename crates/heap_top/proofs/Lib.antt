pub mod DropLaws
pub mod IntoTop
pub mod TopLaws
pub mod MainMoves
