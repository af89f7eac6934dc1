pub mod Stopping
pub mod Finding
pub mod Splitting
pub mod Fielding
pub mod Scoping
pub use Rattle.rule_laws.proofs.OneStep
pub use Rattle.symbolic_reach.proofs.Reaching
