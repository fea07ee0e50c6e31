pub mod Runs
pub mod Lone
pub mod Completed
pub mod Grouped
pub mod Annotated
pub mod Laws
