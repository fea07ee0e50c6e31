pub mod Begun
mod Calls
mod Moves
mod Waiting
mod Outs
pub mod Elsewhere
mod Offers
mod Places
mod Returns
mod Outer
pub mod Endings
pub mod Counts
mod Debts
