pub mod Numbers
pub mod Rounds
