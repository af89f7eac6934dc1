pub mod Any
pub mod ByExpressions
pub mod ByOperations
pub mod Decided
pub mod InOrder
mod InScope
pub mod Judgements
pub mod Law
pub mod Loops
pub mod Numbered
pub mod Members
pub mod Two
pub mod Listings
pub mod Whole
