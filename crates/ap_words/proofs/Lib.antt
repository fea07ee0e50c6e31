pub mod Tests
pub mod Options
pub mod Lines
pub mod Ranges
pub mod Readings
pub mod Loops
pub mod Programs
