pub mod Closed
pub mod Cycles
pub mod Ends
pub mod MadeFrom
