pub mod Asking
pub mod Following
pub mod Gaps
pub mod Needing
pub mod Parts
pub mod Searching
