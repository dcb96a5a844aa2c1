pub mod MainScenes
pub mod HeapScenes
pub mod GroundScenes
pub mod Examples
