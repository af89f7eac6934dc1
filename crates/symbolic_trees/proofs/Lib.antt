pub mod Pieces
pub mod Capped
pub mod Fronts
pub mod Rounds
pub mod Trees
