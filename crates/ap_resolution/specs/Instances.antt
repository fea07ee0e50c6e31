-- Sets of instances of states, and what a goal's call makes of a set. No variable has a name in it.
pub use Rattle.ap_tracked.specs.Sets.{SameSet, IsSetOf, IsGeneralGoal, IsGeneralTuple, Resolved, Behind, Equated, Valued}
