pub mod Bound
pub mod Inferred
pub mod OneOutcome
pub mod Outcomes
pub mod Running
pub mod Sound
pub mod Weights
