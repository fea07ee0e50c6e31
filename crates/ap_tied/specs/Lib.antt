pub mod Happened
pub mod Ties
pub mod Emptied
pub mod Reaching
pub mod Settling
pub mod SlotCalls
