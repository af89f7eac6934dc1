pub mod Alike
pub mod Sums
pub mod Below
pub mod Expanded
pub mod Limited
pub mod Worked
pub use Rattle.candidate_composites.proofs.Placed
pub use Rattle.symbolic_composites.proofs.Lists
