pub mod Agreeing
pub mod Unified
pub mod Resolution
pub mod Variants
pub mod Builtins
