pub mod Reached
pub mod Index
pub mod Laws
pub mod Hashed
