pub mod Example
pub mod Steps
pub mod Ungrouped
pub mod Registers
