pub mod Agree
pub mod Following
pub mod Keeping
pub mod Marks
pub mod Stands
pub mod Tried
pub mod Walked
pub mod Ways
