pub mod CommentLength
pub mod Readable
pub mod Steps
pub mod WordLength
