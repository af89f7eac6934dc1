pub mod Pairing
pub mod TermLists
