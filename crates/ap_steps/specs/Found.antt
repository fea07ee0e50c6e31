-- What instructions behind a structure make of the goals that code can ask for, where the structure is there: its arguments
-- stand at places from some place on.
use Rattle.std.specs.Prelude.{ℕ, suc, ◌+◌, ◌≤◌, Bool, true, false, List, ◌∷◌, length}
use Rattle.ap_term.specs.Tree.{Tree, Trees}
use Rattle.ap_cells.specs.declared.cells.Raw.{Raw}
use Rattle.ap_instr.specs.Code.{Compiled}
use Rattle.ap_instr.specs.Step.{Step}
use Rattle.ap_instr.specs.Steps.{steps_from}
use Rattle.ap_instr.specs.Runs.{spread}
use Rattle.ap_match.specs.Fits.{Agree}
use Rattle.ap_steps.specs.Arguments.{AskedInside}

-- The steps `is`, with n arguments from place q on to come, ask for the same goals now as the steps `js` did before, with m
-- from place p on to come, and places keep their trees.
pub record MovesInside (cs : List Raw) (x y : ℕ → ℕ) (js : List Step) (p m : ℕ) (ds : List Raw) (x' y' : ℕ → ℕ) (is : List Step) (q n : ℕ) : Type 0 where
  pub longer : length cs ≤ length ds
  pub forth : (k : ℕ → Tree) (bs : Trees) → AskedInside cs x y js (spread k p m) k bs → (l : ℕ → Tree) × Agree (length cs) k l × AskedInside ds x' y' is (spread l q n) l bs
  pub back : (l : ℕ → Tree) (bs : Trees) → AskedInside ds x' y' is (spread l q n) l bs → AskedInside cs x y js (spread l p m) l bs

-- with m arguments from place p on to come, the steps can ask for nothing
abbrev pub IsStuckBefore : List Raw → (ℕ → ℕ) → (ℕ → ℕ) → List Step → ℕ → ℕ → Type 0
IsStuckBefore cs x y js p m = (k : ℕ → Tree) (bs : Trees) → AskedInside cs x y js (spread k p m) k bs → ⊥

-- the argument at place p was taken, or can't be, whatever comes behind it
abbrev pub Matched : List Raw → (ℕ → ℕ) → (ℕ → ℕ) → Step → ℕ → List Raw → (ℕ → ℕ) → (ℕ → ℕ) → Bool → Type 0
Matched cs x y i p ds x' y' true = (m : ℕ) (is : List Step) → p + suc m ≤ length cs → MovesInside cs x y (i ∷ is) p (suc m) ds x' y' is (p + 1) m
Matched cs x y i p ds x' y' false = (m : ℕ) (is : List Step) → p + suc m ≤ length cs → IsStuckBefore cs x y (i ∷ is) p (suc m)

-- so many arguments from place p on, by the instructions from a place on
abbrev pub MatchedAll : Compiled → ℕ → ℕ → ℕ → List Raw → (ℕ → ℕ) → (ℕ → ℕ) → List Raw → (ℕ → ℕ) → (ℕ → ℕ) → Bool → Type 0
MatchedAll code at p n cs x y ds x' y' true = MovesInside cs x y (steps_from code at) p n ds x' y' (steps_from code (at + n)) (p + n) 0
MatchedAll code at p n cs x y ds x' y' false = IsStuckBefore cs x y (steps_from code at) p n
