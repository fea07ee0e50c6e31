pub mod Works
pub mod Weights
pub mod Same
pub mod Shared
