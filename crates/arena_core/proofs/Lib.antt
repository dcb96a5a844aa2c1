pub mod Opens
pub mod Mapped
pub mod Recording
pub mod Replays
pub mod ReplayWindows
mod KeptLaws
mod Rounds
pub mod Tellings
