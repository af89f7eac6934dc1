pub mod Linear
pub mod Shapes
pub mod TermLists
pub mod TermPairs
