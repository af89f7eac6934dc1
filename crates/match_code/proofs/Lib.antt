pub mod Postfix
pub mod Runs
pub mod States
