pub mod Laws
pub use Rattle.equation_check.specs.Shape
pub use Rattle.path_order.specs.Decrease
