pub mod Ends
pub mod Justified
pub mod Laws
pub mod OneRun
pub mod Runs
pub use Rattle.board_laws.specs.Next
