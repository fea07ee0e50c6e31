pub mod Mending
pub mod Turns
pub mod Certifying
pub mod Ending
pub mod Untouched
pub mod Plain
pub mod Settled
