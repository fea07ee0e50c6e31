pub mod Numbers
pub mod Sets
pub mod Given
pub mod Listed
