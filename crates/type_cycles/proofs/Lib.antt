pub mod Acyclic
pub mod Firsts
pub mod Marks
pub mod Reached
pub mod Reaching
pub mod Walks
