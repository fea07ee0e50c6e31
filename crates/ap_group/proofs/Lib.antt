pub mod Listed
pub mod Ways
pub mod Checks
