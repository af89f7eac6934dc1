pub mod Ways
pub use Rattle.expand.specs.Expansions
pub use Rattle.node_steps.specs.Laws
