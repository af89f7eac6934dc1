pub mod Certificates
pub mod Laws
pub mod Outcomes
pub mod Pairs
