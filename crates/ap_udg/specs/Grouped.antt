-- A body with its groups: from each goal on the longest run, as a group where it has two goals or more.
use Rattle.std.specs.Prelude.{◌≡◌, ℕ, ◌≤◌, List, [], ◌∷◌, take, drop}
use Rattle.ap_term.specs.Tree.{Trees}
use Rattle.ap_term.specs.Goals.{Part, group}
use Rattle.ap_absunify.specs.declared.states.State.{State}
use Rattle.ap_patterns.specs.Given.{Patterns, after_part}
use Rattle.ap_conditions.specs.FullCondition.{full_condition}
use Rattle.ap_conditions.specs.Simplified.{left}
use Rattle.ap_udg.specs.declared.runs.Rule.{Rule}
use Rattle.ap_udg.specs.Runs.{goals_of, IsLongestRun}

-- the group of goals that a state leaves checks of
abbrev pub group_in : State → Trees → Part
group_in s gs = group (left s (full_condition gs)) gs

-- What comes first, in a state, in the place of the first n parts: the first part alone where no run from there has two
-- goals, else the longest run as a group with the checks that the state doesn't give.
pub data IsNext (r : Rule) (s : State) (ps : List Part) : ℕ → Part → Type 0 where
  alone : (m n : ℕ) (p : Part) → IsLongestRun r s ps m → m ≤ 1 → n ≡ 1 → take 1 ps ≡ p ∷ [] → IsNext r s ps n p
  together : (n : ℕ) (p : Part) → IsLongestRun r s ps n → 2 ≤ n → p ≡ group_in s (goals_of (take n ps)) → IsNext r s ps n p

pub data Grouped (r : Rule) (t : Patterns) : State → List Part → List Part → Type 0 where
  done : (s : State) (ps : List Part) → ps ≡ [] → Grouped r t s ps []
  next : (s : State) (ps : List Part) (n : ℕ) (p : Part) (qs : List Part) → IsNext r s ps n p → Grouped r t (after_part t s p) (drop n ps) qs → Grouped r t s ps (p ∷ qs)
