pub mod Asked
pub mod Becoming
pub mod Derivations
pub mod OneAnswer
pub mod OneWay
