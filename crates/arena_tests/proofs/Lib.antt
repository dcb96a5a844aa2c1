mod MainScenes
mod HeapScenes
mod GroundScenes
