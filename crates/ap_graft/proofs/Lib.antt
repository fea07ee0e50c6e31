pub mod Variables
pub mod Grafts
pub mod Fitted
pub mod Joins
pub mod Sets
pub mod Starts
pub mod Uncalled
