-- The laws that the crate's functions stand for.
use Rattle.std.specs.Prelude.{◌≡◌, ℕ, ◌+◌, ◌<◌, Bool, true, false, List, [], ◌∷◌, length, slice_get, Some, None}
use Rattle.std.specs.List.{AllByRecursion}
use Rattle.ap_term.specs.Tuples.{tuple_under}
use Rattle.ap_term.specs.declared.builtins.Relation.{Relation}
use Rattle.ap_term.specs.declared.fixed.TheConstants.{TRUE, FAIL}
use Rattle.ap_term.specs.Tree.{Tree, atom}
use Rattle.ap_term.specs.Goals.{Program}
use Rattle.ap_term.specs.WellFormed.{IsProgram}
use Rattle.ap_term.specs.UpToNames.{SameUpToNames}
use Rattle.ap_tracked.specs.Tracked.{Tracked}
use Rattle.ap_cells.specs.declared.cells.Raw.{Raw}
use Rattle.ap_cells.specs.Trees.{tree_at, trees}
use Rattle.ap_instr.specs.declared.instruction.Instr.{Instr}
use Rattle.ap_instr.specs.declared.compiled.Predicate.{Predicate}
use Rattle.ap_instr.specs.Builtin.{relation_name}
use Rattle.ap_instr.specs.Code.{Compiled}
use Rattle.ap_instr.specs.Step.{Step, call, execute, proceed, frame, builtin, jump, other, step_of}
use Rattle.ap_instr.specs.Steps.{skipped, steps_from}
use Rattle.ap_instr.specs.Runs.{AsksOpenly}
use Rattle.ap_instr.specs.StandsFor.{StandsFor, clause_places}
use Rattle.ap_match.specs.Fits.{Fits}
use Rattle.ap_steps.specs.Moves.{held, HoldPlaces, Moves, IsStuck}
use Rattle.ap_steps.specs.Standing.{Return}
use Rattle.ap_standing.specs.Machine.{Point, Now, calling, inside, returning, failed, Machine, AreWithin}
use Rattle.ap_standing.specs.Holds.{IsApart, HoldsPoints, HoldsRest, Holds, Turned}
use Rattle.ap_standing.specs.Solved.{Solved}

abbrev pub machine : List Raw → List ℕ → List ℕ → List Return → List ℕ → List Point → Now → Machine
machine cs x y ws roots qs now = record { cells = cs; x = x; y = y; returns = ws; roots = roots; points = qs; now = now }

-- whatever one machine stands for, the other one does
abbrev pub KeepsStanding : Compiled → Machine → Machine → Type 0
KeepsStanding code m m' = (ss : List Tracked) → Holds code m ss → Holds code m' ss

-- one turn of the model leads from what one machine stands for to what the other one does
abbrev pub IsTurn : Compiled → Program → Machine → Machine → Type 0
IsTurn code p m m' = (ss : List Tracked) → Holds code m ss → (ts : List Tracked) × Turned p 1 ss ts × Holds code m' ts

-- the clause ends there, and asks for nothing more
abbrev pub AsksNoMore : List Step → Type 0
AsksNoMore (proceed ∷ is) = Unit {0}
AsksNoMore (frame ∷ is) = AsksNoMore is
AsksNoMore _ = ⊥

-- Instructions, calls that are made and clauses that end are no turns: the machine stands for the same states.
pub record MoveLaw : Type 0 where
  pub goes : (code : Compiled) (roots : List ℕ) (qs : List Point) (ws : List Return) (cs ds : List Raw) (x y x' y' : List ℕ) (at to : ℕ)
      → Moves cs (held x) (held y) (steps_from code at) ds (held x') (held y') (steps_from code to) → AreWithin (length cs) ws → AllByRecursion (λ r. r < length cs) roots
      → (AsksOpenly (steps_from code at) → AsksOpenly (steps_from code to))
      → KeepsStanding code (machine cs x y ws roots qs (inside at)) (machine ds x' y' ws roots qs (inside to))
  pub fails : (code : Compiled) (roots : List ℕ) (qs : List Point) (ws : List Return) (cs ds : List Raw) (x y x' y' : List ℕ) (at : ℕ) → IsStuck cs (held x) (held y) (steps_from code at)
      → KeepsStanding code (machine cs x y ws roots qs (inside at)) (machine ds x' y' ws roots qs failed)
  pub calls : (code : Compiled) (roots : List ℕ) (qs : List Point) (ws : List Return) (cs : List Raw) (x y : List ℕ) (at : ℕ) (i : Instr) (number : ℕ) (q : Predicate) (saved y' : List ℕ)
      → slice_get code.instructions at ≡ Some i → step_of code i ≡ call q.name q.arity → slice_get code.predicates number ≡ Some q → IsApart q → ((n : ℕ) → held saved n ≡ held y n)
      → KeepsStanding code (machine cs x y ws roots qs (inside at)) (machine cs x y' (record { place = at + 1; y = saved } ∷ ws) roots qs (calling number))
  pub calls_last : (code : Compiled) (roots : List ℕ) (qs : List Point) (ws : List Return) (cs : List Raw) (x y : List ℕ) (at : ℕ) (i : Instr) (number : ℕ) (q : Predicate) (y' : List ℕ)
      → slice_get code.instructions at ≡ Some i → step_of code i ≡ execute q.name q.arity → slice_get code.predicates number ≡ Some q → IsApart q
      → KeepsStanding code (machine cs x y ws roots qs (inside at)) (machine cs x y' ws roots qs (calling number))
  pub calls_ending : (code : Compiled) (roots : List ℕ) (qs : List Point) (ws : List Return) (cs : List Raw) (x y : List ℕ) (at : ℕ) (i : Instr) (number : ℕ) (q : Predicate) (y' : List ℕ)
      → slice_get code.instructions at ≡ Some i → step_of code i ≡ call q.name q.arity → AsksNoMore (steps_from code (at + 1)) → slice_get code.predicates number ≡ Some q → IsApart q
      → KeepsStanding code (machine cs x y ws roots qs (inside at)) (machine cs x y' ws roots qs (calling number))
  pub ends : (code : Compiled) (roots : List ℕ) (qs : List Point) (ws : List Return) (cs : List Raw) (x y : List ℕ) (at : ℕ) (i : Instr) (x' y' : List ℕ) → slice_get code.instructions at ≡ Some i
      → step_of code i ≡ proceed → KeepsStanding code (machine cs x y ws roots qs (inside at)) (machine cs x' y' ws roots qs returning)
  pub jumps : (code : Compiled) (roots : List ℕ) (qs : List Point) (ws : List Return) (cs : List Raw) (x y : List ℕ) (at : ℕ) (i : Instr) → slice_get code.instructions at ≡ Some i → step_of code i ≡ jump
      → KeepsStanding code (machine cs x y ws roots qs (inside at)) (machine cs x y ws roots qs (inside (at + 1 + skipped i at)))
  pub breaks_off : (code : Compiled) (roots : List ℕ) (qs : List Point) (ws : List Return) (cs : List Raw) (x y : List ℕ) (at : ℕ) (i : Instr) → slice_get code.instructions at ≡ Some i
      → step_of code i ≡ other → (x' y' : List ℕ) → KeepsStanding code (machine cs x y ws roots qs (inside at)) (machine cs x' y' ws roots qs failed)
  pub comes_back : (code : Compiled) (roots : List ℕ) (qs : List Point) (ws : List Return) (cs : List Raw) (x y x' y' : List ℕ) (w : Return) → ((k : ℕ → Tree) → Fits cs k → k 0 ≡ atom 0)
      → ((n : ℕ) → held x' n ≡ 0) → ((n : ℕ) → held y' n ≡ held w.y n)
      → KeepsStanding code (machine cs x y (w ∷ ws) roots qs returning) (machine cs x' y' ws roots qs (inside w.place))

-- the argument registers hold the same places
abbrev pub SameArguments : ℕ → (ℕ → ℕ) → (ℕ → ℕ) → Type 0
SameArguments n x y = (w : ℕ) → 0 < w → w < n + 1 → x w ≡ y w

-- A call is a turn: in the state's place stand its children by the predicate's clauses, which are taken one after another. A
-- clause that can't be taken has no child.
pub record ClauseLaw : Type 0 where
  pub turns : (code : Compiled) (roots : List ℕ) (qs : List Point) (p : Program) → IsProgram p → StandsFor code p → (q : Predicate) (point : Point) → slice_get code.predicates point.predicate ≡ Some q
      → (x y : List ℕ) → SameArguments q.arity (held x) (held point.arguments)
      → (ss : List Tracked) → Holds code (machine point.cells x y point.returns roots qs (calling point.predicate)) ss
      → (ts : List Tracked) × Turned p 1 ss ts × HoldsRest code roots point (clause_places code q) qs ts
  pub takes : (code : Compiled) (roots : List ℕ) (qs : List Point) (point : Point) (l : ℕ) (ls : List ℕ) (points : List Point) (x y : List ℕ) → ((n : ℕ) → SameArguments n (held x) (held point.arguments))
      → ((left : List Tracked) → HoldsRest code roots point ls qs left → HoldsPoints code roots points left)
      → (ss : List Tracked) → HoldsRest code roots point (l ∷ ls) qs ss → Holds code (machine point.cells x y point.returns roots points (inside l)) ss
  pub skips : (code : Compiled) (roots : List ℕ) (qs : List Point) (point : Point) (l : ℕ) (ls : List ℕ) (x y : List ℕ) → ((n : ℕ) → SameArguments n (held x) (held point.arguments))
      → IsStuck point.cells (held x) (held y) (steps_from code l) → (ss : List Tracked) → HoldsRest code roots point (l ∷ ls) qs ss → HoldsRest code roots point ls qs ss
  pub has_none : (code : Compiled) (roots : List ℕ) (point : Point) (qs : List Point) (ss : List Tracked) → HoldsRest code roots point [] qs ss → HoldsPoints code roots qs ss

-- At the end of the last clause the first state is an answer: it has no goals and met no fault, and its tuple is that of the cells up to names.
abbrev pub AnswerLaw : Type 0
AnswerLaw =
    (code : Compiled) (roots : List ℕ) (qs : List Point) (cs : List Raw) (x y : List ℕ) → AllByRecursion (λ r. r < length cs) roots
    → (ss : List Tracked) → Holds code (machine cs x y [] roots qs returning) ss
    → (s : Tracked) × (left : List Tracked) × (ss ≡ s ∷ left) × (s.goals ≡ []) × (s.fault ≡ None) × SameUpToNames (tuple_under (tree_at (trees cs)) roots) s.tuple × HoldsPoints code roots qs left

-- where the machine is after a built-in goal that stands at a place
abbrev pub behind_goal : ℕ → Bool → Now
behind_goal at true = inside (at + 1)
behind_goal at false = failed

-- A built-in goal is a turn.
pub record GoalLaw : Type 0 where
  pub solves : (code : Compiled) (cs ds : List Raw) (ws : List Return) (roots : List ℕ) (qs : List Point) (x y : List ℕ) (at : ℕ) (p : Program) → IsProgram p → HoldPlaces (length cs) x
      → (relation : Relation) (r : Bool) → steps_from code at ≡ builtin (relation_name relation) 2 ∷ steps_from code (at + 1)
      → HoldPlaces (length cs) y → AreWithin (length cs) ws → AllByRecursion (λ r. r < length cs) roots → Solved relation cs ds (held x 1) (held x 2) r
      → IsTurn code p (machine cs x y ws roots qs (inside at)) (machine ds x y ws roots qs (behind_goal at r))
  pub holds : (code : Compiled) (cs ds : List Raw) (ws : List Return) (roots : List ℕ) (qs : List Point) (x y : List ℕ) (at : ℕ) (p : Program) → IsProgram p → HoldPlaces (length cs) x
      → steps_from code at ≡ builtin TRUE 0 ∷ steps_from code (at + 1) → IsTurn code p (machine cs x y ws roots qs (inside at)) (machine cs x y ws roots qs (inside (at + 1)))
  pub fails : (code : Compiled) (cs ds : List Raw) (ws : List Return) (roots : List ℕ) (qs : List Point) (x y : List ℕ) (at : ℕ) (p : Program) → IsProgram p → HoldPlaces (length cs) x
      → steps_from code at ≡ builtin FAIL 0 ∷ steps_from code (at + 1) → IsTurn code p (machine cs x y ws roots qs (inside at)) (machine ds x y ws roots qs failed)
