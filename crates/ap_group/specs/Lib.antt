pub mod Groups
pub mod Listed
pub mod Gathers
pub mod Turns
pub mod Meets
