-- Environments as lists: the returns that are waited for, and those of each choice point and of each fork.
use Rattle.std.specs.Prelude.{ℕ, List}
use Rattle.ap_steps.specs.Standing.{Return}
use Rattle.ap_environments.specs.declared.environments.Choice.{Choice}
use Rattle.ap_environments.specs.declared.environments.Fork.{Fork}

-- a choice point, with the returns and the argument registers at its call
pub record Moment : Type 0 where
  pub choice : Choice
  pub returns : List Return
  pub arguments : List ℕ

-- a fork, with the returns at it, and the choice points between the next older fork and it
pub record Forked : Type 0 where
  pub fork : Fork
  pub returns : List Return
  pub moments : List Moment

-- from the innermost return on; the choice points that are newer than the newest fork, from the newest on; and from the
-- newest fork on
pub record Kept : Type 0 where
  pub returns : List Return
  pub moments : List Moment
  pub forks : List Forked
