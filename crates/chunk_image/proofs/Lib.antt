mod BorderLaws
mod CellLaws
mod EndLaws
mod FootLaws
mod HeadLaws
mod ReadLaws
pub mod Rooms
pub mod Rows
mod ScanLaws
mod TileLaws
mod WalkLaws
