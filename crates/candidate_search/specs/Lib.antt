pub mod Marks
pub mod Searches
pub mod Laws
pub use Rattle.symbolic_trees.specs.Numbers
