pub mod Marks
pub mod Classes
pub mod Linked
