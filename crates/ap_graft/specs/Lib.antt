pub mod Variables
pub mod Grafts
pub mod Joins
pub mod Uncalled
pub mod Starts
pub mod Laws
