pub mod Memory
pub mod Filling
pub mod Rows
pub mod Putting
pub mod Asked
pub mod Top
pub use Rattle.symbolic_rules.proofs.Sorts
