pub mod Quoted
pub mod Text
pub mod Line
pub mod Work
pub mod SoFar
pub mod Writable
