pub mod Heads
pub mod Keys
pub mod Hashing
pub mod Index
pub mod Opening
pub mod Pairs
pub mod Within
pub mod Words
