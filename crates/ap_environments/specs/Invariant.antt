-- The invariant of `Environments`.
use Rattle.std.specs.Prelude.{◌≤◌, length}
use Rattle.ap_environments.specs.declared.environments.Environments.TheInside.{Inside}
use Rattle.ap_environments.specs.Frames.{Rising, AreFrames}

pub record IsKept (a : Inside) : Type 0 where
  pub frames : AreFrames a.slots.items a.frames.items
  pub top : a.top ≤ length a.frames.items
  pub points : Rising 0 a.points.items (length a.frames.items)
