pub mod Same
pub mod Rows
pub mod Judged
pub mod Redone
pub mod Drained
pub mod Replayed
