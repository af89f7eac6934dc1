pub mod Answered
pub mod Chains
pub mod Equations
pub mod Imports
pub mod OperationNames
