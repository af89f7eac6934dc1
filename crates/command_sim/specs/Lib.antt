pub mod Simulations
pub mod Steps
pub mod Texts
pub use Rattle.command_lines.specs.Inputs
