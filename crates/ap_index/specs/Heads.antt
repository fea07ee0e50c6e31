-- What the head of a clause asks of the arguments of a call.
use Rattle.std.specs.Prelude.{◌≡◌, ℕ, ◌<◌, ◌≤◌, true, false, List, [], ◌∷◌}
use Rattle.std.specs.List.{AllByRecursion}
use Rattle.ap_term.specs.Tree.{Tree, Trees, none, count_trees}
use Rattle.ap_instr.specs.declared.instruction.Instr.{Instr}
use Rattle.ap_instr.specs.Code.{Compiled}
use Rattle.ap_instr.specs.Step.{Step, step_of}
use Rattle.ap_instr.specs.Steps.{steps_from}
use Rattle.ap_instr.specs.Runs.{Runs, AsksOpenly}
use Rattle.ap_needs.specs.Needs.{is_transfer}
use Rattle.ap_index.specs.declared.key.Key.{Key}
use Rattle.ap_index.specs.declared.head.Ask.{Ask}
use Rattle.ap_index.specs.declared.head.Head.{Head}
use Rattle.ap_index.specs.declared.head.Reading.{Reading}
use Rattle.ap_index.specs.declared.head.Passed.{Passed}
use Rattle.ap_index.specs.declared.head.Passed.TheVariants.{On, Asking, No}
use Rattle.ap_index.specs.Keys.{IsKeyOf}

-- an argument has the key that is asked for
abbrev pub IsMet : (ℕ → Tree) → Ask → Type 0
IsMet x a = IsKeyOf a.key (x a.argument)

-- the clause at a place can be entered only where these are met
abbrev pub AreNeeded : Compiled → ℕ → List Ask → Type 0
AreNeeded code at asks = (x y : ℕ → Tree) (bs : Trees) → Runs (steps_from code at) none x y bs → AllByRecursion (IsMet x) asks

-- and, if its code tests nothing behind a goal, wherever they are met
abbrev pub AreEnough : Compiled → ℕ → List Ask → Type 0
AreEnough code at asks = AsksOpenly (steps_from code at) → (x y : ℕ → Tree) → AllByRecursion (IsMet x) asks → (bs : Trees) × Runs (steps_from code at) none x y bs

-- what the head of the clause at a place asks
pub record IsHeadOf (code : Compiled) (at : ℕ) (h : Head) : Type 0 where
  pub needed : AreNeeded code at h.asks.items
  pub enough : h.whole ≡ true → AreEnough code at h.asks.items

-- no other registers are kept
pub record IsNarrower (r s : Reading) : Type 0 where
  pub from : r.from ≤ s.from
  pub to : s.to ≤ r.to

-- the registers that are kept are the same
abbrev pub Keeps : Reading → (ℕ → Tree) → (ℕ → Tree) → Type 0
Keeps r x x' = (w : ℕ) → r.from ≤ w → w < r.to → x' w ≡ x w

-- with registers and so many arguments of a structure that are to come, what is run of steps
pub record Left (r : Reading) (x : ℕ → Tree) : Type 0 where
  pub trees : Trees
  pub count : count_trees trees ≡ r.left
  pub x_now : ℕ → Tree
  pub y_now : ℕ → Tree
  pub keeps : Keeps r x x_now

-- A step asks for these alone: it can be taken only where they are met, and always where they are met, and behind it a head is
-- gone through so far.
pub record AsksAlone (i : Step) (r s : Reading) (asks : List Ask) : Type 0 where
  pub kept : AllByRecursion (λ (a : Ask). (r.from ≤ a.argument) × (a.argument < r.to)) asks
  pub narrower : IsNarrower r s
  pub needs : (is : List Step) (ts : Trees) (x y : ℕ → Tree) (bs : Trees) → count_trees ts ≡ r.left → Runs (i ∷ is) ts x y bs → AllByRecursion (IsMet x) asks × (l : Left s x) × Runs is l.trees l.x_now l.y_now bs
  pub gives : (ts : Trees) (x y : ℕ → Tree) → count_trees ts ≡ r.left → AllByRecursion (IsMet x) asks → (l : Left s x) × ((is : List Step) (bs : Trees) → Runs is l.trees l.x_now l.y_now bs → Runs (i ∷ is) ts x y bs)

-- what an instruction asks, where it goes on with the one behind it
abbrev pub IsPassed : Compiled → Instr → Reading → Passed → Type 0
IsPassed code i r (On s) = (is_transfer i ≡ false) × AsksAlone (step_of code i) r s []
IsPassed code i r (Asking a s) = (is_transfer i ≡ false) × AsksAlone (step_of code i) r s (a ∷ [])
IsPassed code i r No = Unit {0}

-- an argument that is kept is asked for a key, and so many arguments come behind that
abbrev pub AsksFor : ℕ → Key → ℕ → Reading → Passed → Type 0
AsksFor argument key left r (On s) = ⊥
AsksFor argument key left r (Asking a s) = (a ≡ record { argument = argument; key = key }) × (r.from ≤ argument) × (argument < r.to) × (s.from ≡ r.from) × (s.to ≡ r.to) × (s.left ≡ left)
AsksFor argument key left r No = Unit {0}
