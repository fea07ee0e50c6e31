pub mod Left
pub mod Spans
pub mod Turns
