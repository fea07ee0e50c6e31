-- What the states are where a search comes to rest.
use Rattle.std.proofs.Common.{◌≡◌, ℕ, ◌+◌, ◌<◌, List, [], ◌∷◌, ◌++◌, length, slice_get, Some, inl, inr, refl, ap, ap₂, sym, ◌∙◌, subst}
use Rattle.std.specs.List.{AllByRecursion}
use Rattle.ap_tracked.specs.Sets.{SameSet, IsSetOf}
use Rattle.ap_term.specs.Tree.{Tree, Trees, atom, none, more, append_trees}
use Rattle.ap_term.specs.Substitution.{instance_all}
use Rattle.ap_tracked.specs.Tracked.{Goal, Tracked}
use Rattle.ap_tracked.specs.Marks.{marked}
use Rattle.ap_cells.specs.Trees.{tree_at, trees}
use Rattle.ap_instr.specs.declared.builtins.Builtin.{Builtin}
use Rattle.ap_instr.specs.declared.instruction.Instr.TheVariants.{Builtin as builtin_instr}
use Rattle.ap_instr.specs.declared.compiled.Predicate.{Predicate}
use Rattle.ap_instr.specs.Builtin.{builtin_name, builtin_arity}
use Rattle.ap_instr.specs.Code.{Compiled}
use Rattle.ap_instr.specs.Step.{Step, builtin as builtin_step}
use Rattle.ap_instr.specs.Runs.{applied, spread, IsOpen, AsksOpenly}
use Rattle.ap_match.proofs.Maps.{fits-own}
use Rattle.ap_tracked.specs.Instances.{Inst}
use Rattle.ap_steps.specs.Moves.{held}
use Rattle.ap_steps.specs.Standing.{AtCall, InCode}
use Rattle.ap_instr.specs.Steps.{steps_from}
use Rattle.ap_direct.specs.declared.goal.Goal.{Goal as Goal_direct}
use Rattle.ap_direct.specs.declared.goal.Direct.{Direct}
use Rattle.ap_direct.specs.Goals.{goal_tree, x_behind, y_behind, AsksGoal, AsksFirst}
use Rattle.ap_standing.specs.Machine.{Point, Now, calling, inside, returning, failed, Machine, standing}
use Rattle.ap_standing.specs.Holds.{AtCallOf, SetAt, IsOpenAt, AreOpen, HoldsPoints, Holds}
use Rattle.ap_standing.specs.Laws.{machine}
use Rattle.ap_standing.proofs.Calls.{answered}
use Rattle.ap_standing.proofs.Machines.{a-state, failed-points, points-failed, steps-at}
use Rattle.ap_standing.proofs.Moved.{some-waits, some-call}
use Rattle.ap_machine.specs.Live.{IsLive, AreLive}
use Rattle.ap_machine.specs.View.{Paused}
use Rattle.ap_machine.specs.Stands.{IsCallDue, IsAtAnswer, IsAtEnd, tuple_of, IsAnswer, HasGoals}
use Rattle.ap_machine.proofs.Living.{all-live, some-left}

-- ---- a call is due

abbrev BeginsWithGoal : (Trees → Trees → Type 0) → Type 0
BeginsWithGoal I = (gs t : Trees) → I gs t → (g : Tree) × (qs : Trees) × (gs ≡ more g qs)

-- the only state of a set of goals has goals
has-goals : (I : Trees → Trees → Type 0) (here left ss : List Tracked) → IsSetOf I here → (gs t : Trees) × I gs t → BeginsWithGoal I → ss ≡ here ++ left → HasGoals ss
has-goals I here left ss is some begins e =
    let a = a-state I here is some in
    subst HasGoals (sym (e ∙ ap (λ us. us ++ left) a.1)) (goals a.0 a.2)
  where
    goals : (s : Tracked) → SameSet I (Inst s) → s.goals ≡ [] → ⊥
    goals s same no_goals =
        let i : Inst s some.0 some.1 = (same some.0 some.1).0 some.2 in
        let b : (g : Tree) × (qs : Trees) × (some.0 ≡ more g qs) = begins some.0 some.1 some.2 in
        let d : some.0 ≡ none = i.1 ∙ ap (λ (ps : List Goal). instance_all i.0 (marked ps)) no_goals in
        let f : more b.0 b.1 ≡ none = sym b.2 ∙ d in
        let z : ⊥ = cc in z

goals-at-call : (code : Compiled) (m : Machine) (number : ℕ) (q : Predicate) → m.now ≡ calling number → slice_get code.predicates number ≡ Some q → (ss : List Tracked) → Holds code m ss → HasGoals ss
goals-at-call code m number q e known ss h =
    let I : Trees → Trees → Type 0 = AtCall code (standing m) (held m.x) q.name q.arity in
    let at : IsSetOf (SetAt code (standing m) m.x m.y (calling number)) h.0 = subst (λ now. IsSetOf (SetAt code (standing m) m.x m.y now) h.0) e h.2 in
    let is : IsSetOf I h.0 = subst (λ f. IsSetOf (AtCallOf code (standing m) m.x f) h.0) known at in
    has-goals I h.0 h.1 ss is (some-call code (standing m) (held m.x) q.name q.arity h.5) (λ gs t i. (applied q.name (spread (λ w. i.0 (held m.x w)) 1 q.arity), i.1, i.3)) h.7

module _ (code : Compiled) (m : Machine) (p n : ℕ) (is : List Step) where
  abbrev AtGoal : Trees → Trees → Type 0
  AtGoal = InCode code (standing m) (held m.x) (held m.y) (builtin_step p n ∷ is)

  some-goal : IsOpen is → AreOpen code m.returns → (gs t : Trees) × AtGoal gs t
  some-goal opens are_open =
      let k : ℕ → Tree = tree_at (trees m.cells) in
      let b = opens (λ w. k (held m.x w)) (λ w. k (held m.y w)) in
      let r = some-waits code k m.returns m.roots are_open in
      (append_trees (more (applied p (spread (λ w. k (held m.x w)) 1 n)) b.0) r.0, r.1, (k, more (applied p (spread (λ w. k (held m.x w)) 1 n)) b.0, r.0, fits-own m.cells, (b.0, refl, b.1), refl, r.2))

  begins-at-goal : BeginsWithGoal AtGoal
  begins-at-goal gs t i =
      let g : Tree = applied p (spread (λ w. i.0 (held m.x w)) 1 n) in
      (g, append_trees i.4.0 i.2, i.5 ∙ ap (λ bs. append_trees bs i.2) i.4.1)

goals-at-builtin : (code : Compiled) (m : Machine) (at : ℕ) (b : Builtin) → m.now ≡ inside at → slice_get code.instructions at ≡ Some (builtin_instr b) → (ss : List Tracked) → Holds code m ss → HasGoals ss
goals-at-builtin code m at b e here ss h =
    let p : ℕ = builtin_name b in
    let n : ℕ = builtin_arity b in
    let is : List Step = steps_from code (at + 1) in
    let same : steps_from code at ≡ builtin_step p n ∷ is = steps-at code at (builtin_instr b) here (λ d. cc) in
    let set : IsSetOf (SetAt code (standing m) m.x m.y (inside at)) h.0 = subst (λ now. IsSetOf (SetAt code (standing m) m.x m.y now) h.0) e h.2 in
    let set_at : IsSetOf (AtGoal code m p n is) h.0 = subst (λ js. IsSetOf (InCode code (standing m) (held m.x) (held m.y) js) h.0) same set in
    let asks : AsksOpenly (steps_from code at) = subst (IsOpenAt code) e h.4 in
    let opens : AsksOpenly (builtin_step p n ∷ is) = subst AsksOpenly same asks in
    has-goals (AtGoal code m p n is) h.0 h.1 ss set_at (some-goal code m p n is opens.0 h.5) (begins-at-goal code m p n is) h.7

-- code that asks for a goal of arithmetic first
module _ (code : Compiled) (m : Machine) (js is : List Step) (g : Goal_direct) (asks : AsksGoal js g is) where
  abbrev AtDirect : Trees → Trees → Type 0
  AtDirect = InCode code (standing m) (held m.x) (held m.y) js

  some-direct : AsksOpenly js → AreOpen code m.returns → (gs t : Trees) × AtDirect gs t
  some-direct openly are_open =
      let k : ℕ → Tree = tree_at (trees m.cells) in
      let x : ℕ → Tree = λ w. k (held m.x w) in
      let y : ℕ → Tree = λ w. k (held m.y w) in
      let b = (asks.openly openly).0 (x_behind g (atom 0) x) (y_behind g (atom 0) y) in
      let r = some-waits code k m.returns m.roots are_open in
      let bs : Trees = more (goal_tree g (atom 0) x y) b.0 in
      (append_trees bs r.0, r.1, (k, bs, r.0, fits-own m.cells, asks.each x y (atom 0) b.0 b.1, refl, r.2))

  begins-at-direct : BeginsWithGoal AtDirect
  begins-at-direct gs t i =
      let x : ℕ → Tree = λ w. i.0 (held m.x w) in
      let y : ℕ → Tree = λ w. i.0 (held m.y w) in
      let o = asks.only x y i.1 i.4 in
      (goal_tree g o.0 x y, append_trees o.1 i.2, i.5 ∙ ap (λ bs. append_trees bs i.2) o.2)

goals-at-direct : (code : Compiled) (m : Machine) (at : ℕ) (d : Direct) → m.now ≡ inside at → AsksFirst code at d → (ss : List Tracked) → Holds code m ss → HasGoals ss
goals-at-direct code m at d e asks ss h =
    let js : List Step = steps_from code at in
    let is : List Step = steps_from code d.to in
    let set : IsSetOf (AtDirect code m js is d.goal asks) h.0 = subst (λ now. IsSetOf (SetAt code (standing m) m.x m.y now) h.0) e h.2 in
    let openly : AsksOpenly js = subst (IsOpenAt code) e h.4 in
    has-goals (AtDirect code m js is d.goal asks) h.0 h.1 ss set (some-direct code m js is d.goal asks openly h.5) (begins-at-direct code m js is d.goal asks) h.7

goals-due : (code : Compiled) (m : Machine) (now : Now) → m.now ≡ now → IsCallDue code now → (ss : List Tracked) → Holds code m ss → HasGoals ss
goals-due code m (calling number) e due = goals-at-call code m number due.0 e due.1
goals-due code m (inside at) e (inl due) = goals-at-builtin code m at due.0 e due.1
goals-due code m (inside at) e (inr due) = goals-at-direct code m at due.0 e due.1
goals-due code m returning e due = absurd due
goals-due code m failed e due = absurd due

-- where a call is due, the first state has goals
pub goals-left : (code : Compiled) (m : Machine) → IsCallDue code m.now → (ss : List Tracked) → Holds code m ss → HasGoals ss
goals-left code m due = goals-due code m m.now refl due

-- ---- an answer

-- the tuple's places are cells, of a search by what it is equal to
pub roots-inside : (s t : Paused) → s ≡ t → AllByRecursion (λ r. r < length s.machine.cells) s.machine.roots → AllByRecursion (λ r. r < length t.machine.cells) t.machine.roots
roots-inside s t e h = subst (λ (u : Paused). AllByRecursion (λ r. r < length u.machine.cells) u.machine.roots) e h

-- the machine with what it is equal to
at-answer : (code : Compiled) (m : Machine) → IsAtAnswer m → (ss : List Tracked) → Holds code m ss → Holds code (machine m.cells m.x m.y [] m.roots m.points returning) ss
at-answer code m at ss h = subst (λ k. Holds code k ss) (ap₂ (λ ws now. machine m.cells m.x m.y ws m.roots m.points now) at.1 at.0) h

module _ (code : Compiled) (m : Machine) (roots_inside : AllByRecursion (λ r. r < length m.cells) m.roots) (at : IsAtAnswer m) where
  -- at an answer the first state has no goals, and its tuple is the search's
  pub answer-first : (ss : List Tracked) → Holds code m ss → IsAnswer (tuple_of m) ss
  answer-first ss h =
      let a = answered code m.roots m.points m.cells m.x m.y roots_inside ss (at-answer code m at ss h) in
      subst (IsAnswer (tuple_of m)) (sym a.2) (a.3, a.4, a.5)

  -- behind an answer the others are left
  pub answer-left : (s : Tracked) (ss : List Tracked) → Holds code m (s ∷ ss) → Holds code (record m { now = failed }) ss
  answer-left s ss h =
      let a = answered code m.roots m.points m.cells m.x m.y roots_inside (s ∷ ss) (at-answer code m at (s ∷ ss) h) in
      let e : s ∷ ss ≡ a.0 ∷ a.1 = a.2 in
      let same : ss ≡ a.1 = cc in
      points-failed code (record m { now = failed }) refl (subst (AreOpen code) (sym at.1) tt) ss (subst (HoldsPoints code m.roots m.points) (sym same) a.6)

  -- behind an answer a state is left, where another clause of a choice point is
  pub answer-more : AreLive code m → (q : Point) (qs : List Point) → m.points ≡ q ∷ qs → (s : Tracked) (ss : List Tracked) → Holds code m (s ∷ ss) → ss ≡ [] → ⊥
  answer-more live q qs e s ss h =
      let all : AllByRecursion (IsLive code) (q ∷ qs) = subst (AllByRecursion (IsLive code)) e (all-live code m returning at.0 (λ qs. refl) live) in
      some-left code m.roots q qs all.0 ss
      (subst (λ ps. HoldsPoints code m.roots ps ss) e (failed-points code (record m { now = failed }) refl ss (answer-left s ss h)))

-- ---- the end

-- at the end no state is left
pub none-left : (code : Compiled) (m : Machine) → IsAtEnd m → (ss : List Tracked) → Holds code m ss → ss ≡ []
none-left code m at ss h = subst (λ qs. HoldsPoints code m.roots qs ss) at.1 (failed-points code m at.0 ss h)
