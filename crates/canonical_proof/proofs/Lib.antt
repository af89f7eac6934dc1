pub mod Asking
pub mod Evaluated
pub mod Given
pub mod One
pub mod Proving
pub mod Written
