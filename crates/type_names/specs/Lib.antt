pub mod Acyclic
pub mod DuplicateNames
pub mod NameSets
pub mod Refused
pub mod TypeCycles
pub mod UnknownTypes
