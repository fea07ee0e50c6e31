-- Clauses as they are written.
use Rattle.std.specs.Prelude.{ℕ, ◌≤◌, Bool, true, ◌&&◌, IsTrue, Option, Some, None}
use Rattle.ap_term.specs.Tree.{Tree}
use Rattle.ap_term.specs.WellFormed.{numbered, callable}
use Rattle.ap_lifting.specs.Body.{Body, well_formed}

pub record Rule : Type 0 where
  pub head : Tree
  -- a fact has none
  pub body : Option Body
  pub vars : ℕ
  pub line : ℕ

abbrev pub well_formed_if : ℕ → Option Body → Bool
well_formed_if n None = true
well_formed_if n (Some b) = well_formed n b

-- at most 255 variables, numbered from 1; a head and goals that can be called
pub record IsRule (r : Rule) : Type 0 where
  pub few : r.vars ≤ 255
  pub head : IsTrue (callable r.head && numbered r.vars r.head)
  pub body : IsTrue (well_formed_if r.vars r.body)
