pub mod Goals
pub mod Unread
pub mod Puts
pub mod Before
pub mod Table
