pub mod Slots
pub mod Rows
pub mod Verdicts
pub mod Rounds
pub mod Records
pub mod Laws
