pub mod Pairs
pub mod Shifts
pub mod Elimination
pub mod Called
pub mod States
pub mod StateCode
pub mod Searches
