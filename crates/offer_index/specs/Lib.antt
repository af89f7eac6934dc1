pub mod Index
pub mod Left
pub use Rattle.candidate_composites.specs.Kept
pub use Rattle.symbolic_composites.specs.Evaluations
pub use Rattle.symbolic_rules.specs.MarkedTerms
pub use Rattle.symbolic_rules.specs.Tables
pub use Rattle.symbolic_rules.specs.Windows
