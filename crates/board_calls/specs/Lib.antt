pub use Rattle.board_types.specs.Flat
pub use Rattle.board_types.specs.Views
pub mod Passes
pub mod Holds
