pub mod Finding
pub mod Lookups
pub mod Pieces
pub mod Sound
pub mod Taking
pub mod Values
pub mod WholeTerms
pub mod Words
