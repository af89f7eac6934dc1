pub mod Loops
pub mod Parsers
