pub mod Joined
pub mod Playing
pub mod Trays
pub mod SerialWays
pub mod LawsOfPlaces
