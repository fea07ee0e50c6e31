mod Uses
mod Puts
mod Steps
mod Asked
pub mod Behind
pub mod Found
