pub mod Goals
pub mod Bodies
pub mod Same
pub mod Groups
pub mod Bare
pub mod Places
pub mod Again
