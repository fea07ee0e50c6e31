pub mod Shown
pub mod Switch
pub mod Grouped
pub mod Held
pub mod Lines
pub mod Laws
