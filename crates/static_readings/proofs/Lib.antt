mod Named
pub mod Known
pub mod Numbered
pub mod Offered
pub mod Reading
pub mod Scopes
pub mod Single
pub mod Together
