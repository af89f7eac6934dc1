pub mod Crossing
pub mod Joining
pub mod Made
pub mod Origins
pub mod Own
pub mod Runs
