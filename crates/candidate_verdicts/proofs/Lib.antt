pub mod Known
pub mod Missing
pub mod Sameness
pub mod Storing
pub mod Staying
pub mod Deciding
pub mod Verdicts
pub use Rattle.candidate_search.proofs.Found
