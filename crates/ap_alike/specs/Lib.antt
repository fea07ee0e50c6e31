pub mod Alike
pub mod Fitted
pub mod Laws
