pub mod Gathered
pub mod Judged
