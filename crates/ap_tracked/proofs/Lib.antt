pub mod Untracked
pub mod Checks
pub mod Safe
pub mod Marks
pub mod Kept
