pub mod Digits
pub mod Cuts
pub mod Before
mod MarkTables
pub mod Loop
pub mod Numerals
pub mod Steps
pub mod Calls
pub mod Spelled
pub mod RoundTrip
mod LineTexts
mod FirstPlaces
mod RowLines
pub mod NextLines
