pub mod Noted
pub mod Changes
pub mod Dropped
pub mod Opened
pub mod Left
