mod Others
pub mod Answered
pub mod Awaiting
pub mod Completing
pub mod Driven
pub mod Legal
pub mod Logs
pub mod Numbers
pub mod OneClient
pub mod Open
pub mod Runs
