pub mod Specifications
