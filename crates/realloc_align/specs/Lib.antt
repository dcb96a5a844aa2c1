pub use Rattle.arena_rules.specs.PlainArena
pub use Rattle.arena_rules.specs.Rules
pub use Rattle.arena_rules.specs.Resize
pub use Rattle.arena_rules.specs.Align
pub mod Resizes
pub mod Aligns
pub mod Calls
