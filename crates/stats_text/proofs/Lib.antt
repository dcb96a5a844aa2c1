pub mod CountLaws
pub mod Digits
pub mod Rooms
pub mod ArenaRooms
pub mod ListOrder
pub mod Sums
