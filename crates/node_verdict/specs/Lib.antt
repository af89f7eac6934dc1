pub mod Asking
pub mod Choosing
pub mod Found
pub mod Judged
pub mod Laws
