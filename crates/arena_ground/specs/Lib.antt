pub use Rattle.arena_rules.specs.PlainArena
pub use Rattle.arena_rules.specs.MainPlaces
pub use Rattle.arena_rules.specs.HeapPlaces
pub use Rattle.heap_top.specs.MainRanges
pub use Rattle.heap_top.specs.HeapRanges
pub mod Grounds
