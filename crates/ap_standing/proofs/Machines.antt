-- What the moves of a machine make of the list of states that it stands for.
use Rattle.std.proofs.Common.{◌≡◌, ℕ, ◌+◌, ◌<◌, List, [], ◌∷◌, ◌++◌, length, slice_get, Some, refl, ap, sym, ◌∙◌, subst, arith}
use Rattle.std.specs.List.{AllByRecursion}
use Rattle.ap_tracked.specs.Sets.{SameSet, IsSetOf}
use Rattle.ap_term.specs.Tree.{Tree, Trees, atom, none, more, append_trees}
use Rattle.ap_term.proofs.Facts.{funext}
use Rattle.ap_tracked.specs.Tracked.{Tracked}
use Rattle.ap_tracked.specs.Instances.{Inst}
use Rattle.ap_cells.specs.declared.cells.Raw.{Raw}
use Rattle.ap_instr.specs.declared.instruction.Instr.{Instr}
use Rattle.ap_instr.specs.declared.compiled.Predicate.{Predicate}
use Rattle.ap_instr.specs.Code.{Compiled}
use Rattle.ap_instr.specs.declared.instruction.Instr.TheVariants.{Jump}
use Rattle.ap_instr.specs.Step.{Step, call as call_step, execute, proceed, frame, jump, other, step_of}
use Rattle.ap_instr.specs.Steps.{skipped, steps_from}
use Rattle.ap_instr.proofs.Steps.{steps_law}
use Rattle.ap_instr.specs.Runs.{Runs, AsksOpenly, applied, spread, lost}
use Rattle.ap_match.specs.Fits.{Fits}
use Rattle.ap_resolution.proofs.Unified.{IsSetOf-same}
use Rattle.ap_steps.specs.Moves.{held, Moves, IsStuck}
use Rattle.ap_steps.specs.Standing.{Return, Standing, Waits, AtCall, InCode, returning as returning_to}
use Rattle.ap_steps.proofs.Entry.{calls_are}
use Rattle.ap_standing.specs.Machine.{Point, calling, inside, returning, failed, Machine, AreWithin}
use Rattle.ap_standing.specs.Holds.{AtReturn, AtCallOf, SetOf, IsApart, IsOpenAt, AreOpen, HoldsPoints, Holds}
use Rattle.ap_standing.specs.Laws.{machine, AsksNoMore}
use Rattle.ap_standing.proofs.Children.{no-state}
use Rattle.ap_standing.proofs.Moved.{moved, stuck}
use Rattle.ap_standing.proofs.Turns.{SameSet-trans, SameSet-sym}

-- ---- in general

-- the machine is at the same goals, with the same choice points
pub holds-same : (code : Compiled) (m m' : Machine) → m'.roots ≡ m.roots → m'.points ≡ m.points → SameSet (SetOf code m) (SetOf code m')
    → (IsOpenAt code m.now → AreOpen code m.returns → IsOpenAt code m'.now × AreOpen code m'.returns)
    → (ss : List Tracked) → Holds code m ss → Holds code m' ss
holds-same code m m' er ep same opens ss h =
    let o = opens h.4 h.5 in (
      h.0,
      h.1,
      IsSetOf-same (SetOf code m) (SetOf code m') same h.0 h.2,
      h.3,
      o.0,
      o.1,
      subst (λ rs. HoldsPoints code rs m'.points h.1) (sym er) (subst (λ qs. HoldsPoints code m.roots qs h.1) (sym ep) h.6),
      h.7,
    )

-- the machine is at no goals
pub holds-failed : (code : Compiled) (m m' : Machine) → m'.roots ≡ m.roots → m'.points ≡ m.points → m'.now ≡ failed → AreOpen code m'.returns → ((gs t : Trees) → SetOf code m gs t → ⊥)
    → (ss : List Tracked) → Holds code m ss → Holds code m' ss
holds-failed code m m' er ep en opens empty ss h = (
  [],
  h.1,
  subst (λ now. IsSetOf (SetOf code (record m' { now = now })) []) (sym en) (λ gs t i. i),
  tt,
  subst (IsOpenAt code) (sym en) tt,
  opens,
  subst (λ rs. HoldsPoints code rs m'.points h.1) (sym er) (subst (λ qs. HoldsPoints code m.roots qs h.1) (sym ep) h.6),
  h.7 ∙ ap (λ us. us ++ h.1) (no-state (SetOf code m) h.0 h.2 empty),
)

-- where the machine has failed, the states are those of the choice points
pub failed-points : (code : Compiled) (m : Machine) → m.now ≡ failed → (ss : List Tracked) → Holds code m ss → HoldsPoints code m.roots m.points ss
failed-points code m en ss h =
    let none_here : h.0 ≡ [] = no-state (SetOf code m) h.0 h.2 (λ gs t. subst (λ now. SetOf code (record m { now = now }) gs t → ⊥) (sym en) (λ i. i)) in
    subst (HoldsPoints code m.roots m.points) (sym (h.7 ∙ ap (λ us. us ++ h.1) none_here)) h.6

pub points-failed : (code : Compiled) (m : Machine) → m.now ≡ failed → AreOpen code m.returns → (ss : List Tracked) → HoldsPoints code m.roots m.points ss → Holds code m ss
points-failed code m en opens ss h = (
  [],
  ss,
  subst (λ now. IsSetOf (SetOf code (record m { now = now })) []) (sym en) (λ gs t i. i),
  tt,
  subst (IsOpenAt code) (sym en) tt,
  opens,
  h,
  refl,
)

-- where there are instances there is a state
pub a-state : (I : Trees → Trees → Type 0) (here : List Tracked) → IsSetOf I here → (gs t : Trees) × I gs t → (s : Tracked) × (here ≡ s ∷ []) × SameSet I (Inst s)
a-state I [] h some = absurd (h some.0 some.1 some.2)
a-state I (s ∷ ss) h some = (s, ap (λ us. s ∷ us) h.1, h.0)

-- ---- instructions

-- the predicate of the table
is-apart : (code : Compiled) (number : ℕ) (q : Predicate) → slice_get code.predicates number ≡ Some q → IsApart q → (r : Predicate) → slice_get code.predicates number ≡ Some r → IsApart r
is-apart code number q known apart r e = subst IsApart (let d : Some q ≡ Some r = sym known ∙ e in let f : q ≡ r = cc in f) apart

-- what is no jump goes on behind itself
goes-on : (code : Compiled) (i : Instr) (at : ℕ) → (step_of code i ≡ jump → ⊥) → skipped i at ≡ 0
goes-on code (Jump l) at h = absurd (h refl)
goes-on code i at h = refl

pub steps-at : (code : Compiled) (at : ℕ) (i : Instr) → slice_get code.instructions at ≡ Some i → (step_of code i ≡ jump → ⊥) → steps_from code at ≡ step_of code i ∷ steps_from code (at + 1)
steps-at code at i e h =
    let n : ℕ = skipped i at in
    let z : n ≡ 0 = goes-on code i at h in
    steps_law code at i e ∙ ap (λ m. step_of code i ∷ steps_from code m) (let q : at + 1 + n ≡ at + 1 = omega (arith, z) in q)

-- the steps from an instruction on, by its step
steps-by : (code : Compiled) (at : ℕ) (i : Instr) (s : Step) → slice_get code.instructions at ≡ Some i → step_of code i ≡ s → (s ≡ jump → ⊥) → steps_from code at ≡ s ∷ steps_from code (at + 1)
steps-by code at i s e o h = steps-at code at i e (λ d. h (sym o ∙ d)) ∙ ap (λ j. j ∷ steps_from code (at + 1)) o

-- where a clause ends nothing is asked for
no-more : (is : List Step) → AsksNoMore is → (x y : ℕ → Tree) (bs : Trees) → Runs is none x y bs → bs ≡ none
no-more [] h x y bs r = absurd h
no-more (proceed ∷ is) h x y bs r = r
no-more (frame ∷ is) h x y bs r = no-more is h x y bs r
no-more (i ∷ is) h x y bs r = absurd h

ends-there : (is : List Step) → AsksNoMore is → (x y : ℕ → Tree) → Runs is none x y none
ends-there [] h x y = absurd h
ends-there (proceed ∷ is) h x y = refl
ends-there (frame ∷ is) h x y = ends-there is h x y
ends-there (i ∷ is) h x y = absurd h

-- a call behind which the clause ends is its last one
ending-call : (code : Compiled) (s : Standing) (x y : ℕ → ℕ) (p n : ℕ) (is : List Step) → AsksNoMore is → SameSet (InCode code s x y (call_step p n ∷ is)) (AtCall code s x p n)
ending-call code s x y p n is h gs t = (
  λ m.
      let g : Tree = applied p (spread (λ v. m.0 (x v)) 1 n) in
      (m.0, m.2, m.3, m.5 ∙ ap (λ b. append_trees b m.2) (m.4.1 ∙ ap (more g) (no-more is h lost (λ v. m.0 (y v)) m.4.0 m.4.2)), m.6),
  λ m. (m.0, more (applied p (spread (λ v. m.0 (x v)) 1 n)) none, m.1, m.2, (none, refl, ends-there is h lost (λ v. m.0 (y v))), m.3, m.4),
)

module _ (code : Compiled) (roots : List ℕ) (qs : List Point) (ws : List Return) where
  -- instructions on registers and cells
  pub went : (cs ds : List Raw) (x y x' y' : List ℕ) (at to : ℕ) → Moves cs (held x) (held y) (steps_from code at) ds (held x') (held y') (steps_from code to)
      → AreWithin (length cs) ws → AllByRecursion (λ r. r < length cs) roots → (AsksOpenly (steps_from code at) → AsksOpenly (steps_from code to))
      → (ss : List Tracked) → Holds code (machine cs x y ws roots qs (inside at)) ss → Holds code (machine ds x' y' ws roots qs (inside to)) ss
  went cs ds x y x' y' at to m hw hr carries =
      holds-same code (machine cs x y ws roots qs (inside at)) (machine ds x' y' ws roots qs (inside to)) refl refl
      (SameSet-sym (SetOf code (machine ds x' y' ws roots qs (inside to))) (SetOf code (machine cs x y ws roots qs (inside at)))
      (moved code cs ds ws roots (held x) (held y) (held x') (held y') (steps_from code at) (steps_from code to) m hw hr))
      (λ o os. (carries o, os))

  -- instructions that can't be taken
  pub failed-inside : (cs ds : List Raw) (x y x' y' : List ℕ) (at : ℕ) → IsStuck cs (held x) (held y) (steps_from code at)
      → (ss : List Tracked) → Holds code (machine cs x y ws roots qs (inside at)) ss → Holds code (machine ds x' y' ws roots qs failed) ss
  failed-inside cs ds x y x' y' at s ss h =
      holds-failed code (machine cs x y ws roots qs (inside at)) (machine ds x' y' ws roots qs failed) refl refl refl h.5 (stuck code cs ws roots (held x) (held y) (steps_from code at) s) ss h

  module _ (cs : List Raw) (x y : List ℕ) (at : ℕ) where
    -- an instruction of no clause
    pub failed-at : (i : Instr) → slice_get code.instructions at ≡ Some i → step_of code i ≡ other → (x' y' : List ℕ)
        → (ss : List Tracked) → Holds code (machine cs x y ws roots qs (inside at)) ss → Holds code (machine cs x' y' ws roots qs failed) ss
    failed-at i e o x' y' =
        failed-inside cs cs x y x' y' at
        (subst (IsStuck cs (held x) (held y)) (sym (steps-by code at i other e o (λ d. cc))) (λ k bs a. a.1))

    -- the code goes on elsewhere
    pub jumped : (i : Instr) → slice_get code.instructions at ≡ Some i → step_of code i ≡ jump
        → (ss : List Tracked) → Holds code (machine cs x y ws roots qs (inside at)) ss → Holds code (machine cs x y ws roots qs (inside (at + 1 + skipped i at))) ss
    jumped i e o =
        let to : ℕ = at + 1 + skipped i at in
        let same : steps_from code at ≡ jump ∷ steps_from code to = steps_law code at i e ∙ ap (λ j. j ∷ steps_from code to) o in
        holds-same code (machine cs x y ws roots qs (inside at)) (machine cs x y ws roots qs (inside to)) refl refl
        (subst (λ is. SameSet (InCode code (record { cells = cs; returns = ws; roots = roots }) (held x) (held y) is) (SetOf code (machine cs x y ws roots qs (inside to)))) (sym same) (λ gs t. (λ i. i, λ i. i)))
        (λ os rs. (let a : AsksOpenly (jump ∷ steps_from code to) = subst AsksOpenly same os in a.1, rs))

    -- a call
    pub made-call : (i : Instr) (number : ℕ) (q : Predicate) (saved y' : List ℕ) → slice_get code.instructions at ≡ Some i → step_of code i ≡ call_step q.name q.arity
        → slice_get code.predicates number ≡ Some q → IsApart q → ((n : ℕ) → held saved n ≡ held y n)
        → (ss : List Tracked) → Holds code (machine cs x y ws roots qs (inside at)) ss
        → Holds code (machine cs x y' (record { place = at + 1; y = saved } ∷ ws) roots qs (calling number)) ss
    made-call i number q saved y' e o known apart kept =
        let same : steps_from code at ≡ call_step q.name q.arity ∷ steps_from code (at + 1) = steps-by code at i (call_step q.name q.arity) e o (λ d. cc) in
        let w : Return = record { place = at + 1; y = saved } in
        let st : Standing = record { cells = cs; returns = ws; roots = roots } in
        let maps : ◌≡◌ {A = ℕ → ℕ} (held saved) (held y) = funext (held saved) (held y) kept in
        holds-same code (machine cs x y ws roots qs (inside at)) (machine cs x y' (w ∷ ws) roots qs (calling number)) refl refl
        (subst (λ f. SameSet (SetOf code (machine cs x y ws roots qs (inside at))) (AtCallOf code (returning_to st w) x f)) (sym known)
        (subst (λ is. SameSet (InCode code st (held x) (held y) is) (AtCall code (returning_to st w) (held x) q.name q.arity)) (sym same)
        (subst (λ f. SameSet (InCode code st (held x) f (call_step q.name q.arity ∷ steps_from code (at + 1))) (AtCall code (returning_to st w) (held x) q.name q.arity)) maps
        (calls_are.calls code st (held x) w q.name q.arity))))
        (λ o os. let a : AsksOpenly (call_step q.name q.arity ∷ steps_from code (at + 1)) = subst AsksOpenly same o in (is-apart code number q known apart, (a.0, a.1, os)))

    -- the last call of a clause
    pub made-last-call : (i : Instr) (number : ℕ) (q : Predicate) (y' : List ℕ) → slice_get code.instructions at ≡ Some i → step_of code i ≡ execute q.name q.arity
        → slice_get code.predicates number ≡ Some q → IsApart q
        → (ss : List Tracked) → Holds code (machine cs x y ws roots qs (inside at)) ss → Holds code (machine cs x y' ws roots qs (calling number)) ss
    made-last-call i number q y' e o known apart =
        let same : steps_from code at ≡ execute q.name q.arity ∷ steps_from code (at + 1) = steps-by code at i (execute q.name q.arity) e o (λ d. cc) in
        let st : Standing = record { cells = cs; returns = ws; roots = roots } in
        holds-same code (machine cs x y ws roots qs (inside at)) (machine cs x y' ws roots qs (calling number)) refl refl
        (subst (λ f. SameSet (SetOf code (machine cs x y ws roots qs (inside at))) (AtCallOf code st x f)) (sym known)
        (subst (λ is. SameSet (InCode code st (held x) (held y) is) (AtCall code st (held x) q.name q.arity)) (sym same)
        (calls_are.executes code st (held x) (held y) q.name q.arity (steps_from code (at + 1)))))
        (λ o os. (is-apart code number q known apart, os))

    -- a call behind which the clause ends
    pub made-ending-call : (i : Instr) (number : ℕ) (q : Predicate) (y' : List ℕ) → slice_get code.instructions at ≡ Some i → step_of code i ≡ call_step q.name q.arity
        → AsksNoMore (steps_from code (at + 1)) → slice_get code.predicates number ≡ Some q → IsApart q
        → (ss : List Tracked) → Holds code (machine cs x y ws roots qs (inside at)) ss → Holds code (machine cs x y' ws roots qs (calling number)) ss
    made-ending-call i number q y' e o last known apart =
        let same : steps_from code at ≡ call_step q.name q.arity ∷ steps_from code (at + 1) = steps-by code at i (call_step q.name q.arity) e o (λ d. cc) in
        let st : Standing = record { cells = cs; returns = ws; roots = roots } in
        holds-same code (machine cs x y ws roots qs (inside at)) (machine cs x y' ws roots qs (calling number)) refl refl
        (subst (λ f. SameSet (SetOf code (machine cs x y ws roots qs (inside at))) (AtCallOf code st x f)) (sym known)
        (subst (λ is. SameSet (InCode code st (held x) (held y) is) (AtCall code st (held x) q.name q.arity)) (sym same)
        (ending-call code st (held x) (held y) q.name q.arity (steps_from code (at + 1)) last)))
        (λ o os. (is-apart code number q known apart, os))

    -- the end of a clause
    pub ended : (i : Instr) (x' y' : List ℕ) → slice_get code.instructions at ≡ Some i → step_of code i ≡ proceed
        → (ss : List Tracked) → Holds code (machine cs x y ws roots qs (inside at)) ss → Holds code (machine cs x' y' ws roots qs returning) ss
    ended i x' y' e o =
        let same : steps_from code at ≡ proceed ∷ steps_from code (at + 1) = steps-by code at i proceed e o (λ d. cc) in
        let st : Standing = record { cells = cs; returns = ws; roots = roots } in
        holds-same code (machine cs x y ws roots qs (inside at)) (machine cs x' y' ws roots qs returning) refl refl
        (subst (λ is. SameSet (InCode code st (held x) (held y) is) (AtReturn code st)) (sym same)
        (λ gs t. (
          λ m. (m.0, m.3, subst (λ us. Waits code ws roots m.0 us t) (sym (m.5 ∙ ap (λ b. append_trees b m.2) m.4)) m.6),
          λ m. (m.0, none, gs, m.1, refl, refl, m.2),
        )))
        (λ o os. (tt, os))

  -- control comes back to a place behind a call
  pub came-back : (cs : List Raw) (x y x' y' : List ℕ) (w : Return) → ((k : ℕ → Tree) → Fits cs k → k 0 ≡ atom 0) → ((n : ℕ) → held x' n ≡ 0) → ((n : ℕ) → held y' n ≡ held w.y n)
      → (ss : List Tracked) → Holds code (machine cs x y (w ∷ ws) roots qs returning) ss → Holds code (machine cs x' y' ws roots qs (inside w.place)) ss
  came-back cs x y x' y' w bottom none_x same_y =
      let st : Standing = record { cells = cs; returns = ws; roots = roots } in
      let ex : ◌≡◌ {A = ℕ → ℕ} (λ n. 0) (held x') = funext (λ n. 0) (held x') (λ n. sym (none_x n)) in
      let ey : ◌≡◌ {A = ℕ → ℕ} (held w.y) (held y') = funext (held w.y) (held y') (λ n. sym (same_y n)) in
      holds-same code (machine cs x y (w ∷ ws) roots qs returning) (machine cs x' y' ws roots qs (inside w.place)) refl refl
      (subst (λ f. SameSet (AtReturn code (returning_to st w)) (InCode code st f (held y') (steps_from code w.place))) ex
      (subst (λ f. SameSet (AtReturn code (returning_to st w)) (InCode code st (λ n. 0) f (steps_from code w.place))) ey
      (SameSet-trans (AtReturn code (returning_to st w)) (InCode code (returning_to st w) (held x) (held y) (proceed ∷ [])) (InCode code st (λ n. 0) (held w.y) (steps_from code w.place))
      (λ gs t. (
        λ m. (m.0, none, gs, m.1, refl, refl, m.2),
        λ m. (m.0, m.3, subst (λ us. Waits code (w ∷ ws) roots m.0 us t) (sym (m.5 ∙ ap (λ b. append_trees b m.2) m.4)) m.6),
      ))
      (calls_are.proceeds code st (held x) (held y) w [] 0 bottom))))
      (λ o os. (os.1, os.2))
