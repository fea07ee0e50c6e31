pub mod Stands
pub mod Rounds
pub mod Stores
pub mod Walks
pub mod Searches
pub mod Assumed
pub mod Built
pub mod Leaves
mod Settled
pub mod Packed
