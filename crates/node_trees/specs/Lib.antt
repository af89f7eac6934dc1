pub mod Origins
pub mod Blanks
pub mod Rests
pub mod Shapes
pub mod Constructs
pub mod Generations
pub mod Posting
pub mod Differences
