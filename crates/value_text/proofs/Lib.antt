pub mod Lists
pub mod Names
pub mod OneTerm
pub mod OneValue
pub mod Operations
pub mod Runs
pub mod Values
