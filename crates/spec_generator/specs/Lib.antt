pub mod Examples
pub mod Links
pub mod Numbers
pub mod Scripts
pub mod Specifications
