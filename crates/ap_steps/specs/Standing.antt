-- What a machine at a place in code stands for: goals and a tuple, under each map that fits its cells.
use Rattle.std.specs.Prelude.{◌≡◌, ℕ, List, [], ◌∷◌}
use Rattle.ap_term.specs.Tree.{Tree, Trees, none, more, atom, node, count_trees, append_trees}
pub use Rattle.ap_term.specs.Tuples.{tuple_under}
use Rattle.ap_term.specs.Goals.{Clause}
use Rattle.ap_cells.specs.declared.cells.Raw.{Raw}
use Rattle.ap_instr.specs.Code.{Compiled}
use Rattle.ap_instr.specs.Step.{Step, call, execute, proceed}
use Rattle.ap_instr.specs.Steps.{steps_from}
use Rattle.ap_instr.specs.Runs.{Runs, Reads, applied, spread, lost}
use Rattle.ap_match.specs.Fits.{Fits}
use Rattle.ap_tracked.specs.Sets.{SameSet, Resolved}
use Rattle.ap_steps.specs.Moves.{held}

-- a place in code that is come back to, with the registers of its environment
pub record Return : Type 0 where
  pub place : ℕ
  pub y : List ℕ

-- cells, returns from the innermost on, and the places of the tuple
pub record Standing : Type 0 where
  pub cells : List Raw
  pub returns : List Return
  pub roots : List ℕ

-- what the returns ask for, and the tuple
abbrev pub Waits : Compiled → List Return → List ℕ → (ℕ → Tree) → Trees → Trees → Type 0
Waits code [] roots k qs t = (qs ≡ none) × (t ≡ tuple_under k roots)
Waits code (w ∷ ws) roots k qs t =
    (bs : Trees) × (rs : Trees) × Runs (steps_from code w.place) none lost (λ n. k (held w.y n)) bs × (qs ≡ append_trees bs rs) × Waits code ws roots k rs t

-- at a call of a name on the first n registers
abbrev pub AtCall : Compiled → Standing → (ℕ → ℕ) → ℕ → ℕ → Trees → Trees → Type 0
AtCall code s x p n gs t =
    (k : ℕ → Tree) × (qs : Trees) × Fits s.cells k × (gs ≡ more (applied p (spread (λ w. k (x w)) 1 n)) qs) × Waits code s.returns s.roots k qs t

-- before some steps
abbrev pub InCode : Compiled → Standing → (ℕ → ℕ) → (ℕ → ℕ) → List Step → Trees → Trees → Type 0
InCode code s x y is gs t =
    (k : ℕ → Tree) × (bs : Trees) × (qs : Trees) × Fits s.cells k × Runs is none (λ w. k (x w)) (λ w. k (y w)) bs × (gs ≡ append_trees bs qs) × Waits code s.returns s.roots k qs t

-- a clause's head is a name on so many arguments
abbrev pub IsHead : Tree → ℕ → ℕ → Type 0
IsHead (atom a) p n = (a ≡ p) × (n ≡ 0)
IsHead (node a none) p n = ⊥
IsHead (node a (more t ts)) p n = (a ≡ p) × (n ≡ count_trees (more t ts))
IsHead _ p n = ⊥

-- Before the code of a clause a machine that came from a call stands for what resolution with the clause makes of what it
-- stood for at the call.
abbrev pub EntryLaw : Type 0
EntryLaw =
    (code : Compiled) (s : Standing) (x y : ℕ → ℕ) (p n : ℕ) (is : List Step) (c : Clause) → IsHead c.head p n → Reads is c
    → SameSet (InCode code s x y is) (Resolved (AtCall code s x p n) c)

-- with one more return
abbrev pub returning : Standing → Return → Standing
returning s w = record { cells = s.cells; returns = w ∷ s.returns; roots = s.roots }

-- A call keeps what is stood for, and so does coming back from one; the last call of a clause needs no return.
pub record CallLaw : Type 0 where
  pub calls : (code : Compiled) (s : Standing) (x : ℕ → ℕ) (w : Return) (p n : ℕ) → SameSet (InCode code s x (held w.y) (call p n ∷ steps_from code w.place)) (AtCall code (returning s w) x p n)
  pub executes : (code : Compiled) (s : Standing) (x y : ℕ → ℕ) (p n : ℕ) (is : List Step) → SameSet (InCode code s x y (execute p n ∷ is)) (AtCall code s x p n)
  pub proceeds : (code : Compiled) (s : Standing) (x y : ℕ → ℕ) (w : Return) (is : List Step) (unset : ℕ) → ((k : ℕ → Tree) → Fits s.cells k → k unset ≡ atom 0) → SameSet (InCode code (returning s w) x y (proceed ∷ is)) (InCode code s (λ n. unset) (held w.y) (steps_from code w.place))
