pub mod Rows
pub mod Holding
pub mod Notes
pub mod Looking
pub mod Keeping
