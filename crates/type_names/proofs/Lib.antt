mod Acyclic
pub mod Gathered
mod Rounds
mod Sets
