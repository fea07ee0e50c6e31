pub mod Lone
pub mod Mended
pub mod Made
pub mod Laws
