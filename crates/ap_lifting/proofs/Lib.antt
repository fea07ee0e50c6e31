pub mod Measured
pub mod Kept
pub mod Again
pub mod Queries
pub mod Meaning
pub mod LiftedPrograms
pub mod Simulation
pub mod Shown
pub mod Binds
pub mod LiftedCalls
pub mod Filled
pub mod Weights
pub mod Places
mod Rows
mod GoalRows
