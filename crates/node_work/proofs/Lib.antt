pub mod Memory
pub mod Adding
pub use Rattle.expand.proofs.Top
