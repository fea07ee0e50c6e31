pub mod FullCondition
pub mod GoalSets
pub mod Simplified
pub mod Laws
