pub mod Calls
pub mod Cuts
pub mod Faults
pub mod Files
pub mod Halting
pub mod MemFiles
pub mod MemSink
pub mod Pieces
