pub mod PlaceEndings
