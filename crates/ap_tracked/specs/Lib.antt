pub mod Tracked
pub mod Forks
pub mod Marks
pub mod Instances
pub mod Sets
pub mod Safe
pub mod Kept
pub mod Laws
