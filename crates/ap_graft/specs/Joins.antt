-- The answers of a group's goals, put in one after the other.
use Rattle.std.specs.Prelude.{◌≡◌, ℕ, List, [], ◌∷◌, None}
use Rattle.ap_term.specs.Tuples.{arguments}
use Rattle.ap_term.specs.Tree.{Tree, Trees, none, more}
use Rattle.ap_term.specs.Substitution.{instance_all}
use Rattle.ap_term.specs.Goals.{Program}
use Rattle.ap_term.specs.Search.{State}
use Rattle.ap_laws.specs.Plain.{Plain}
use Rattle.ap_laws.specs.Graft.{graft_state}
use Rattle.ap_tracked.specs.Tracked.{Tracked}
use Rattle.ap_tracked.specs.Forks.{alone}
use Rattle.ap_tracked.specs.Kept.{IsKept}

-- an answer that the search of the goal alone from b on came to
pub record IsAnswerOf (p : Program) (b : ℕ) (g : Tree) (u : Tracked) : Type 0 where
  pub ended : u.goals ≡ []
  pub quiet : u.fault ≡ None
  pub kept : IsKept p (alone g b) u

-- one for one with the goals
abbrev pub AreAnswers : Program → ℕ → Trees → List Tracked → Type 0
AreAnswers p b none [] = Unit {0}
AreAnswers p b (more g gs) (u ∷ us) = IsAnswerOf p b g u × AreAnswers p b gs us
AreAnswers p b _ _ = ⊥

-- states without groups, each put in the place of the goal that then comes first
abbrev pub graft_states : ℕ → State → List Plain → State
graft_states b s [] = s
graft_states b s (u ∷ us) = graft_states b (graft_state b s u) us

-- under the map each goal's arguments are an instance of its answer's tuple, whose variables have no name here
abbrev pub AllMet : Trees → List Tracked → (ℕ → Tree) → Type 0
AllMet none [] f = Unit {0}
AllMet (more g gs) (u ∷ us) f = ((h : ℕ → Tree) × (instance_all f (arguments g) ≡ instance_all h u.tuple)) × AllMet gs us f
AllMet _ _ f = ⊥
