-- Which goals of a body may stand as one group.
use Rattle.std.specs.Prelude.{ℕ, ◌≤◌, Bool, true, false, not, IsTrue, List, [], ◌∷◌, take, length}
use Rattle.std.specs.List.{list_all}
use Rattle.ap_term.specs.Tree.{Trees, none, more, push_tree}
use Rattle.ap_term.specs.Goals.{Part, call, group}
use Rattle.ap_absunify.specs.declared.states.State.{State}
use Rattle.ap_patterns.specs.Given.{is_builtin}
use Rattle.ap_conditions.specs.FullCondition.{full_condition}
use Rattle.ap_conditions.specs.Simplified.{simplified}
use Rattle.ap_conditions.specs.declared.simplifications.Simplified.{Simplified}
use Rattle.ap_conditions.specs.declared.simplifications.Simplified.TheVariants.{Keep, NeverTrue}
use Rattle.ap_udg.specs.declared.runs.Rule.{Rule}
use Rattle.ap_udg.specs.declared.runs.Rule.TheVariants.{Conditional, Unconditional}

-- whether a rule takes a group of whose condition this is left
abbrev pub takes : Rule → Simplified → Bool
takes r NeverTrue = false
takes Conditional (Keep cs) = true
takes Unconditional (Keep []) = true
takes Unconditional (Keep (c ∷ cs)) = false

-- whether goals may stand as one group in a state
abbrev pub may_stand : Rule → State → Trees → Bool
may_stand r s gs = takes r (simplified (full_condition gs) s)

-- a goal alone that isn't built in
abbrev pub is_user_call : Part → Bool
is_user_call (call g) = not (is_builtin g)
is_user_call (group cs gs) = false

-- the goals of the parts that are one goal each
abbrev pub goals_of : List Part → Trees
goals_of [] = none
goals_of (call g ∷ ps) = more g (goals_of ps)
goals_of (group cs gs ∷ ps) = goals_of ps

-- goals, and then that of a part that is one goal
abbrev pub with_goal : Trees → Part → Trees
with_goal gs (call g) = push_tree gs g
with_goal gs (group cs hs) = gs

-- the first n parts are user goals, at most 32, that may stand as one group
pub record IsRun (r : Rule) (s : State) (ps : List Part) (n : ℕ) : Type 0 where
  pub few : n ≤ 32
  pub there : n ≤ length ps
  pub user : IsTrue (list_all is_user_call (take n ps))
  pub stands : IsTrue (may_stand r s (goals_of (take n ps)))

pub record IsLongestRun (r : Rule) (s : State) (ps : List Part) (n : ℕ) : Type 0 where
  pub run : IsRun r s ps n
  pub longest : (m : ℕ) → IsRun r s ps m → m ≤ n
