pub mod Assembled
pub mod Compiled
pub mod CompiledNames
pub mod NamedTypes
pub mod Presentation
pub mod Specification
pub mod SpecificationNames
pub mod Standing
