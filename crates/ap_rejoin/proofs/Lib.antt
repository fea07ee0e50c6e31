pub mod Fitting
pub mod Names
pub mod Narrowing
pub mod Together
