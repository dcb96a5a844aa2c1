pub use Rattle.arena_rules.specs.PlainArena
pub mod FreePages
pub mod Trimming
pub mod TrimText
