pub mod Handing
pub mod Opening
pub mod Reading
pub mod Stacks
pub mod Standing
pub mod Tidied
