pub mod Behind
pub mod Needs
