pub mod Works
pub mod Sides
pub mod Laws
pub mod Shared
