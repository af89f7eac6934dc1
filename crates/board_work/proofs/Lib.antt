pub mod Driving
pub mod Going
pub mod Keeping
pub mod Taking
pub mod Handing
pub mod Quiet
pub mod Worked
