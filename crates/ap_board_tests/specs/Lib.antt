pub mod Spots
pub mod Lone
pub mod LoneKept
