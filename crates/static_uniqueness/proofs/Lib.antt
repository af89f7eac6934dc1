mod ConstructParts
mod Defined
mod Determined
mod Judged
mod Meanings
mod OneMeaning
mod Processes
mod Readings
mod Tables
mod TreeParts
mod Written
pub mod Contents
pub mod Copies
pub mod Equations
pub mod Lists
pub mod Names
pub mod Own
pub mod Presented
