pub mod Asking
pub mod Behind
pub mod Places
pub mod Targets
