-- A machine inside a group: from its first check to its last goal.
use Rattle.std.specs.Prelude.{◌≡◌, ℕ, zero, suc, ◌+◌, ◌<◌, List, [], ◌∷◌, ◌++◌, length, slice_get, Some}
use Rattle.std.specs.List.{AllByRecursion}
use Rattle.ap_tracked.specs.Sets.{SameSet}
use Rattle.ap_term.specs.declared.clauses.Check.{Check}
use Rattle.ap_term.specs.declared.clauses.Check.TheVariants.{Ground, Indep}
use Rattle.ap_term.specs.Tree.{Tree, Trees, none, more, count_trees, append_trees}
use Rattle.ap_term.specs.Substitution.{instance_all}
use Rattle.ap_term.specs.Independence.{IsGround, SharesNoVariable, Holds}
use Rattle.ap_cells.specs.declared.cells.Raw.{Raw}
use Rattle.ap_cells.specs.Trees.{tree_at, trees}
use Rattle.ap_tracked.specs.Tracked.{Goal, fork, Tracked}
use Rattle.ap_tracked.specs.Marks.{check_marks, group_mark, marked, opening}
use Rattle.ap_tracked.specs.Instances.{Inst}
use Rattle.ap_graft.specs.Variables.{LocalGoal}
use Rattle.ap_instr.specs.declared.instruction.Slot.{Slot}
use Rattle.ap_instr.specs.declared.compiled.Predicate.{Predicate}
use Rattle.ap_instr.specs.Code.{Compiled}
use Rattle.ap_instr.specs.Step.{Step, check_ground, check_indep, group, push, wait}
use Rattle.ap_instr.specs.Steps.{steps_from}
use Rattle.ap_instr.specs.Runs.{Runs, read, IsOpen}
use Rattle.ap_match.specs.Fits.{Fits}
use Rattle.ap_steps.specs.Moves.{held, Moves}
use Rattle.ap_steps.specs.Standing.{Return, Standing, InCode, Waits}
use Rattle.ap_standing.specs.Machine.{AreWithin}
use Rattle.ap_standing.specs.Holds.{AreOpen}
use Rattle.ap_group.specs.Groups.{Pushed}
use Rattle.ap_group.specs.Gathers.{places_from}
use Rattle.ap_tie.specs.Forked.{goals_under, AtFork}

-- the instances of a state whose group comes first, of whose marks these checks' and the group's are left
abbrev pub MarksLeft : Tracked → List Check → Trees → (ℕ → Tree) → List Goal → Trees → Trees → Type 0
MarksLeft u cs ts own gs hs t =
    (f : ℕ → Tree) × (hs ≡ instance_all f (check_marks own cs (more (group_mark (count_trees ts)) (append_trees (instance_all own ts) (marked gs))))) × (t ≡ instance_all f u.tuple)

-- its instances behind the marks
abbrev pub NoMarkLeft : Tracked → Trees → (ℕ → Tree) → List Goal → Trees → Trees → Type 0
NoMarkLeft u ts own gs hs t = (f : ℕ → Tree) × (hs ≡ instance_all f (append_trees (instance_all own ts) (marked gs))) × (t ≡ instance_all f u.tuple)

-- Before a group's marks stand those of its checks. A check of the code is the first one left; where it holds of what the
-- register stands for it holds of the state, and behind it the others are left. Behind the last mark is the conjunction.
pub record MarkLaw : Type 0 where
  pub all : (u : Tracked) (cs : List Check) (ts : Trees) (own : ℕ → Tree) (now : List Check) (gs : List Goal) → u.goals ≡ fork cs ts own now ∷ gs → SameSet (Inst u) (MarksLeft u cs ts own gs)
  pub ground : (code : Compiled) (s : Standing) (x y : ℕ → ℕ) (v : Slot) (is : List Step) (u : Tracked) (cs : List Check) (ts : Trees) (own : ℕ → Tree) (gs : List Goal)
      → SameSet (InCode code s x y (check_ground v ∷ is)) (MarksLeft u cs ts own gs) → read v x y < length s.cells → IsGround (tree_at (trees s.cells) (read v x y))
      → (z : ℕ) × (ds : List Check) × (cs ≡ Ground z ∷ ds) × Holds own (Ground z) × SameSet (InCode code s x y is) (MarksLeft u ds ts own gs)
  pub indep : (code : Compiled) (s : Standing) (x y : ℕ → ℕ) (v w : Slot) (is : List Step) (u : Tracked) (cs : List Check) (ts : Trees) (own : ℕ → Tree) (gs : List Goal)
      → IsOpen is → AreOpen code s.returns → SameSet (InCode code s x y (check_indep v w ∷ is)) (MarksLeft u cs ts own gs) → read v x y < length s.cells → read w x y < length s.cells
      → SharesNoVariable (tree_at (trees s.cells) (read v x y)) (tree_at (trees s.cells) (read w x y))
      → (a b : ℕ) × (ds : List Check) × (cs ≡ Indep a b ∷ ds) × Holds own (Indep a b) × SameSet (InCode code s x y is) (MarksLeft u ds ts own gs)
  pub last : (code : Compiled) (s : Standing) (x y : ℕ → ℕ) (n : ℕ) (is : List Step) (u : Tracked) (cs : List Check) (ts : Trees) (own : ℕ → Tree) (gs : List Goal)
      → SameSet (InCode code s x y (group n ∷ is)) (MarksLeft u cs ts own gs) → (cs ≡ []) × SameSet (InCode code s x y is) (NoMarkLeft u ts own gs)
  pub opened : (u : Tracked) (cs : List Check) (ts : Trees) (own : ℕ → Tree) (now : List Check) (gs : List Goal) → u.goals ≡ fork cs ts own now ∷ gs → LocalGoal (λ v. v < u.next) (fork cs ts own now)
      → SameSet (NoMarkLeft u ts own gs) (Inst (opening u))

-- ---- goals that are pushed

-- the goals that were pushed, what the steps ask for, and what is waited for
abbrev pub Pushing : Compiled → Standing → (ℕ → ℕ) → (ℕ → ℕ) → List Step → List Pushed → Trees → Trees → Type 0
Pushing code s x y is ps gs t =
    (k : ℕ → Tree) × (bs : Trees) × (qs : Trees) × Fits s.cells k × Runs is none (λ w. k (x w)) (λ w. k (y w)) bs × (gs ≡ append_trees (goals_under code k ps) (append_trees bs qs)) × Waits code s.returns s.roots k qs t

abbrev pub AreInside : ℕ → List Pushed → Type 0
AreInside n ps = AllByRecursion (λ p. AllByRecursion (λ r. r < n) p.arguments) ps

-- A push keeps what is stood for, and so do instructions between pushes; at the group's end it is the fork's place.
pub record PushLaw : Type 0 where
  pub begins : (code : Compiled) (s : Standing) (x y : ℕ → ℕ) (is : List Step) → SameSet (InCode code s x y is) (Pushing code s x y is [])
  pub pushed : (code : Compiled) (s : Standing) (x y : ℕ → ℕ) (p n number : ℕ) (q : Predicate) (is : List Step) (ps : List Pushed) → slice_get code.predicates number ≡ Some q → q.name ≡ p
      → SameSet (Pushing code s x y (push p n ∷ is) ps) (Pushing code s x y is (ps ++ record { predicate = number; arguments = places_from x 1 n } ∷ []))
  pub moved : (code : Compiled) (cs ds : List Raw) (ws : List Return) (roots : List ℕ) (x y x' y' : ℕ → ℕ) (js is : List Step) (ps : List Pushed) → Moves cs x y js ds x' y' is
      → AreWithin (length cs) ws → AllByRecursion (λ r. r < length cs) roots → AreInside (length cs) ps
      → SameSet (Pushing code (record { cells = ds; returns = ws; roots = roots }) x' y' is ps) (Pushing code (record { cells = cs; returns = ws; roots = roots }) x y js ps)
  pub ends : (code : Compiled) (s : Standing) (x : ℕ → ℕ) (w : Return) (ps : List Pushed)
      → SameSet (Pushing code s x (held w.y) (wait ∷ steps_from code w.place) ps) (AtFork code s.roots (record { cells = s.cells; returns = w ∷ s.returns; goals = ps }))
