pub mod Named
pub mod Children
pub mod FirstGoals
pub mod Moved
pub mod Turns
pub mod Machines
pub mod Calls
pub mod Builtins
