pub mod Unplaced
pub mod Printable
pub mod Phrase
pub mod Readback
pub mod Renumbering
