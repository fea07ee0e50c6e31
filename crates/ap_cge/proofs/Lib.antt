pub mod Stripping
pub mod Writing
pub mod Lexing
pub mod Tokens
pub mod Terms
