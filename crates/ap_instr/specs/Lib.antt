pub mod Builtin
pub mod Code
pub mod Step
pub mod Steps
pub mod Runs
pub mod Groups
pub mod Table
pub mod StandsFor
