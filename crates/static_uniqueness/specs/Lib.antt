pub mod Constructs
pub mod ConstructsAlike
pub mod Specifications
pub mod SpecificationsAlike
pub mod Trees
pub mod Types
