pub mod Work
pub mod SoFar
