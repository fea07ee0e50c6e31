pub mod Kept
pub mod Frames
pub mod Invariant
