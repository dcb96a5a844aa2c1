pub mod PlaceGathers
pub mod PlaceHolds
