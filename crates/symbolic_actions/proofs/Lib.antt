pub mod Deciding
pub mod Folding
