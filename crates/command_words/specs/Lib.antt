pub mod Commands
pub mod Laws
pub mod Numbers
pub mod Options
pub mod Readers
