pub mod History
pub mod Grammar
pub mod Rule
pub mod Causes
pub mod Plays
pub mod Seats
pub mod Handles
pub mod Rows
