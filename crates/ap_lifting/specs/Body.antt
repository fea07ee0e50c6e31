-- Bodies as they are written, on trees.
use Rattle.std.specs.Prelude.{ℕ, Bool, true, ◌&&◌, List}
use Rattle.std.specs.List.{list_all}
use Rattle.ap_term.specs.Tree.{Tree}
use Rattle.ap_term.specs.WellFormed.{in_range, numbered, callable}
use Rattle.ap_lifting.specs.declared.bodies.Condition.{Condition}
use Rattle.ap_lifting.specs.declared.bodies.Condition.TheVariants.{True, Ground, Indep}

-- a call; A, B; A ; B; A & B; C => B
pub data Body : Type 0 where
  goal : Tree → Body
  conjunction : Body → Body → Body
  disjunction : Body → Body → Body
  parallel : Body → Body → Body
  conditional : List Condition → Body → Body

abbrev pub numbered_condition : ℕ → Condition → Bool
numbered_condition n True = true
numbered_condition n (Ground x) = in_range n x
numbered_condition n (Indep x y) = in_range n x && in_range n y

-- goals that can be called, with variables from 1 to n
abbrev pub well_formed : ℕ → Body → Bool
well_formed n (goal t) = callable t && numbered n t
well_formed n (conjunction a b) = well_formed n a && well_formed n b
well_formed n (disjunction a b) = well_formed n a && well_formed n b
well_formed n (parallel a b) = well_formed n a && well_formed n b
well_formed n (conditional cs b) = list_all (numbered_condition n) cs && well_formed n b
