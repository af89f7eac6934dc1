pub mod Fits
pub mod Formats
pub mod Laws
pub mod Names
pub mod Pending
pub mod Standing
pub mod Trace
