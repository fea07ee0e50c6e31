pub mod Alone
pub mod Remembered
