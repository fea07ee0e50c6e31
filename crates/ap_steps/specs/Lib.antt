pub mod Moves
pub mod Arguments
pub mod Standing
pub mod Found
pub mod Ways
