pub mod Groups
pub mod Again
