pub mod Held
pub mod Looks
pub mod Offered
