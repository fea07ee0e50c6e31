-- The search of a slot's goal, where it begins.
use Rattle.std.proofs.Common.{◌≡◌, ℕ, suc, ◌+◌, ◌<◌, ◌⊎◌, inl, inr, List, [], ◌∷◌, ◌++◌, Some, None, slice_get, append-nil, refl, ap, sym, ◌∙◌, subst, arith}
use Rattle.ap_term.specs.Tree.{Tree, Trees, var, int, atom, node, none, more}
use Rattle.ap_term.specs.UpToNames.{SameUpToNames}
use Rattle.ap_term.specs.Vars.{Local, LocalAll}
use Rattle.ap_term.proofs.Locals.{Local-weaken, LocalAll-weaken}
use Rattle.ap_term.proofs.TreeLists.{LocalAll-arguments, instance-applied}
use Rattle.ap_laws.specs.Graft.{arguments}
use Rattle.ap_core.specs.Relation.{Rules}
use Rattle.ap_tracked.specs.Tracked.{call, Tracked}
use Rattle.ap_tracked.specs.Forks.{alone}
use Rattle.ap_tracked.specs.Instances.{Inst}
use Rattle.ap_resolution.specs.Instances.{IsSetOf}
use Rattle.ap_instr.specs.declared.compiled.Predicate.{Predicate}
use Rattle.ap_instr.specs.Code.{Compiled}
use Rattle.ap_instr.specs.Runs.{applied}
use Rattle.ap_instr.specs.StandsFor.{IsOfClauses, IsOfBuiltin}
use Rattle.ap_cells.specs.Trees.{tree_at, trees}
use Rattle.ap_group.specs.Groups.{Pushed}
use Rattle.ap_steps.specs.Standing.{tuple_under}
use Rattle.ap_standing.specs.Machine.{Point, Machine}
use Rattle.ap_standing.specs.Holds.{SetOf, IsApart, HoldsPoints, Holds}
use Rattle.ap_standing.proofs.Named.{named-applied}
use Rattle.ap_machine.specs.View.{Paused}
use Rattle.ap_machine.specs.Started.{called, Started}
use Rattle.ap_rejoin.proofs.Names.{instance-same}
use Rattle.ap_tie.specs.Sections.{Section, section, bottom, parcall}
use Rattle.ap_tied.specs.Ties.{IsSearched}
use Rattle.ap_open.specs.Calling.{IsGoalIn}
use Rattle.ap_section.specs.Slots.{IsGoalOf, IsParcelOf}

-- ---- variables

mutual
  bound-tree : (t : Tree) → (n : ℕ) × Local (λ x. x < n) t
  bound-tree (var x) = (suc x, omega arith)
  bound-tree (int z) = (0, tt)
  bound-tree (atom a) = (0, tt)
  bound-tree (node a ts) = bound-trees ts

  bound-trees : (ts : Trees) → (n : ℕ) × LocalAll (λ x. x < n) ts
  bound-trees none = (0, tt)
  bound-trees (more t ts) =
      let a = bound-tree t in
      let b = bound-trees ts in
      (a.0 + b.0, (Local-weaken (λ x. x < a.0) (λ x. x < a.0 + b.0) (λ x l. omega arith) t a.1, LocalAll-weaken (λ x. x < b.0) (λ x. x < a.0 + b.0) (λ x l. omega arith) ts b.1))

-- ---- names of variables

pub called-instances : (name n k : ℕ) (ts us : Trees) → SameUpToNames us ts → (gs t : Trees) → Inst (called name ts n) gs t → Inst (called name us k) gs t
called-instances name n k ts us same gs t h =
    let i = instance-same us ts same h.0 in (
      i.0,
      h.1 ∙ ap (λ u. more u none) (instance-applied h.0 name ts ∙ ap (applied name) (sym i.1) ∙ sym (instance-applied i.0 name us)),
      h.2 ∙ sym i.1,
    )

pub no-points : (code : Compiled) (roots : List ℕ) (qs : List Point) (left : List Tracked) → qs ≡ [] → HoldsPoints code roots qs left → left ≡ []
no-points code roots qs left e h = subst (λ ps. HoldsPoints code roots ps left) e h

-- another call of that name whose arguments are the same up to names
pub renamed-call : (code : Compiled) (m : Machine) (name n k : ℕ) (ts us : Trees) → m.points ≡ [] → SameUpToNames ts us → LocalAll (λ x. x < k) us → Local (λ x. x < k) (applied name us)
    → Holds code m (called name ts n ∷ []) → Holds code m (called name us k ∷ [])
renamed-call code m name n k ts us points same below local h =
    let left = no-points code m.roots m.points h.1 points h.6 in
    let here : called name ts n ∷ [] ≡ h.0 = h.7 ∙ ap (λ l. h.0 ++ l) left ∙ append-nil h.0 in
    let set = subst (IsSetOf (SetOf code m)) (sym here) h.2 in (
      called name us k ∷ [],
      [],
      (λ gs t. (λ i. called-instances name n k ts us (sym same) gs t ((set.0 gs t).0 i), λ i. (set.0 gs t).1 (called-instances name k n us ts same gs t i)), refl),
      ((((local, tt), below, omega arith, tt), (named-applied name us, tt), refl), tt),
      h.4,
      h.5,
      subst (λ ps. HoldsPoints code m.roots ps []) (sym points) refl,
      refl,
    )

-- the goal alone
pub goal-alone : (code : Compiled) (m : Machine) (name n k : ℕ) (ts : Trees) (g : Tree) → m.points ≡ [] → g ≡ applied name (arguments g) → SameUpToNames ts (arguments g) → Local (λ x. x < k) g
    → Holds code m (called name ts n ∷ []) → Holds code m (alone g k ∷ [])
goal-alone code m name n k ts g points named same below h =
    let c = renamed-call code m name n k ts (arguments g) points same (LocalAll-arguments (λ x. x < k) g below) (subst (Local (λ x. x < k)) named below) h in
    subst (λ (t : Tree). Holds code m (record { goals = call t ∷ []; tuple = arguments g; next = k; steps = 0; fault = None } ∷ [])) (sym named) c

pub kind-of : (code : Compiled) (r : Rules) (q : Predicate) → IsOfClauses code r.program q ⊎ IsOfBuiltin code q → IsApart q ⊎ IsOfBuiltin code q
kind-of code r q (inl h) = inl h.apart
kind-of code r q (inr h) = inr h

-- A search of slot i's goal stands for that goal alone, whatever its variables are named.
pub begun-holds : (code : Compiled) (s : Section) (i number rest : ℕ) (ts : Trees) (p : Paused) → IsGoalOf i s number → IsParcelOf i s ts → Started code ts number rest p → (code.query ≡ Some number → ⊥)
    → (r : Rules) (o : Tracked) → IsSearched code r o → (g : Tree) (n : ℕ) → IsGoalIn code i s g n → Holds code p.machine (alone g n ∷ [])
begun-holds code (section m c b bottom) i number rest ts p goal parcel started other r o searched g n is = absurd is
begun-holds code (section m c b (parcall f q rd w qs st)) i number rest ts p goal parcel started other r o searched g n is =
    let same : goal.0 ≡ is.goal = let e : Some goal.0 ≡ Some is.goal = sym goal.1 ∙ is.place in cc in
    let same' : parcel.0 ≡ is.goal = let e : Some parcel.0 ≡ Some is.goal = sym parcel.1 ∙ is.place in cc in
    let number-is : is.goal.predicate ≡ number = sym (ap (λ (z : Pushed). z.predicate) same) ∙ goal.2 in
    let known : slice_get code.predicates number ≡ Some is.predicate = subst (λ k. slice_get code.predicates k ≡ Some is.predicate) number-is is.known in
    let bound = bound-trees ts in
    let at = started.calls (λ question. other question.0) in
    let names : SameUpToNames ts (arguments g) =
    parcel.2 ∙ subst (λ (z : Pushed). SameUpToNames (tuple_under (tree_at (trees f.cells)) z.arguments) (arguments g)) (sym same') is.same in
    goal-alone code p.machine is.predicate.name bound.0 n ts g at.points is.named names is.below
    (at.holds is.predicate bound.0 known (kind-of code r is.predicate (searched.code_stands.predicates number is.predicate known)) bound.1)
