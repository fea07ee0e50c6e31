pub mod Arities
pub mod Jobs
pub mod Posted
pub mod Posts
