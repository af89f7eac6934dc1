pub mod Crossing
pub mod Whole
pub use Rattle.symbolic_composites.proofs.Answers
pub use Rattle.symbolic_composites.proofs.Lists
