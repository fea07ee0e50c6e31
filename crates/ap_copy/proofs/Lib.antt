pub mod Blocks
pub mod Steps
pub mod Names
pub mod Tuples
pub mod Moves
pub mod Fresh
pub mod Memories
