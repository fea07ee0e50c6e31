pub mod Same
pub mod Blocks
pub mod Naming
