pub mod Moves
pub mod Puts
pub mod Readers
pub mod Halts
pub mod Places
