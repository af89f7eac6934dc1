pub mod Driven
pub mod Going
pub mod Handed
pub mod Outcomes
pub mod Settling
pub use Rattle.node_trees.specs.Generations
pub use Rattle.client_laws.specs.Ends
pub use Rattle.client_laws.specs.Runs
