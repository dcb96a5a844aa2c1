pub mod Joining
pub mod Playing
mod Pushing
pub mod Slots
pub mod SerialBooks
pub mod SerialKeeps
pub mod SerialLaws
pub mod SerialFirst
pub mod Opening
pub mod Serving
mod TrayLists
mod Insides
mod Ends
