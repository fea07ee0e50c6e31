pub mod Levels
pub mod Counts
pub mod Stacks
pub mod Outcomes
