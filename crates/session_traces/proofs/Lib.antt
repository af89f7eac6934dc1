pub mod Asked
pub mod Few
pub mod Logs
pub mod Replayed
pub mod Sessions
pub mod Trees
pub mod Wished
