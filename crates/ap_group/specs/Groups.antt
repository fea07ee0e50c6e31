-- The goals of a group, where they were pushed.
use Rattle.std.specs.Prelude.{ℕ, List}
use Rattle.ap_cells.specs.declared.cells.Raw.{Raw}
use Rattle.ap_steps.specs.Standing.{Return}

-- a goal that was pushed: a predicate of the table on the terms of some places
pub record Pushed : Type 0 where
  pub predicate : ℕ
  pub arguments : List ℕ

-- where a group's goals were pushed: cells, and the returns, the first of which leads behind the group
pub record Forked : Type 0 where
  pub cells : List Raw
  pub returns : List Return
  pub goals : List Pushed
