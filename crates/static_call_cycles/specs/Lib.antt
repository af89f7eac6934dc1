pub mod AtOnce
pub mod Laws
pub mod Unguarded
pub use Rattle.static_constructs.specs.Constructs
pub use Rattle.static_constructs.specs.Written
pub use Rattle.type_cycles.specs.Cycles
pub use Rattle.type_cycles.specs.MadeFrom
