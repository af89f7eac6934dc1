pub mod Acyclic
pub mod Cycles
pub use Rattle.type_cycles.proofs.Walks
