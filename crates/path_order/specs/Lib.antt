pub mod Below
pub mod Decrease
pub mod Mentioning
