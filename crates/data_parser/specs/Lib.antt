pub mod Chains
pub mod Equations
pub mod OperationNames
