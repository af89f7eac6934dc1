pub mod Rows
pub mod Runs
pub mod Started
pub mod Stepping
pub use Rattle.board_laws.specs.JobValues
