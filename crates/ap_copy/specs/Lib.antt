pub mod Copies
pub mod Memory
pub mod Copying
pub mod Parcels
