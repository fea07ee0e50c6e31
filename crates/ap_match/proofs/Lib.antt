pub mod Inside
pub mod Maps
pub mod Matches
pub mod Tuples
