pub mod Walks
pub mod Rightmost
pub mod Numbered
pub mod Places
pub mod Begun
pub mod Failing
