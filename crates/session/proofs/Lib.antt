pub mod Closed
pub mod Collecting
pub mod Crossing
pub mod Ending
pub mod Handing
mod Manning
mod Owning
mod Passing
mod Posting
mod Seats
mod Starting
mod Working
