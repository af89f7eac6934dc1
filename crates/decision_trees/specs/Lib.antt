pub mod Decisions
pub mod Gaps
pub mod Known
pub mod Laws
pub mod Lazy
pub mod Rules
