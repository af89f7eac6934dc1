mod Bytes
mod Words
pub mod Tokens
pub mod Trees
pub mod Types
