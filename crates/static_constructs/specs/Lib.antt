pub mod Constructs
pub mod Views
pub mod Written
