-- What a machine stands for that has a tuple's places in its argument registers, and nothing else.
use Rattle.std.proofs.Common.{◌≡◌, ℕ, zero, suc, ◌+◌, ◌-◌, ◌<◌, ◌≤◌, true, if◌then◌else◌, List, [], ◌∷◌, map, length, Option, Some, slice_get, refl, ap, ap₂, sym, ◌∙◌, subst, arith}
use Rattle.ap_tracked.specs.Sets.{SameSet}
use Rattle.ap_term.proofs.UpToNames.{instance-same}
use Rattle.ap_term.specs.Tuples.{tuple_under}
use Rattle.ap_term.proofs.TreeLists.{instance-applied, append_trees-none}
use Rattle.ap_term.specs.declared.fixed.TheConstants.{QUERY}
use Rattle.ap_term.specs.Tree.{Tree, Trees, var, atom, none, more, count_trees, append_trees}
use Rattle.ap_term.specs.Substitution.{instance, instance_all, shift}
use Rattle.ap_term.specs.WellFormed.{in_range, IsQuery}
use Rattle.ap_term.specs.Goals.{Query}
use Rattle.ap_term.specs.UpToNames.{SameUpToNames}
use Rattle.ap_term.specs.Search.{variables}
use Rattle.ap_term.proofs.Copies.{instance_all_twice}
use Rattle.ap_term.specs.Vars.{Local, LocalAll}
use Rattle.ap_term.proofs.Locals.{instance_all-same}
use Rattle.ap_tracked.specs.Tracked.{placed, renamed}
use Rattle.ap_tracked.specs.Marks.{marked}
use Rattle.ap_tracked.proofs.Marks.{marks}
use Rattle.ap_graft.specs.Starts.{tracked_start}
use Rattle.ap_graft.proofs.Starts.{starting}
use Rattle.ap_resolution.proofs.Agreeing.{marked-agree}
use Rattle.ap_cells.specs.declared.cells.Raw.{Raw}
use Rattle.ap_cells.specs.Trees.{tree_at, trees, span}
use Rattle.ap_instr.specs.declared.compiled.Predicate.{Predicate}
use Rattle.ap_instr.specs.Code.{Compiled}
use Rattle.ap_instr.specs.Runs.{applied, arguments, spread, Asks, AsksOpenly}
use Rattle.ap_instr.specs.declared.instruction.Instr.TheVariants.{Builtin as BuiltinGoal, Proceed}
use Rattle.ap_instr.specs.Step.{Step, builtin as builtin_step, proceed}
use Rattle.ap_instr.specs.StandsFor.{IsOfBuiltin, ReadsAt, asked}
use Rattle.ap_match.specs.Fits.{Fits}
use Rattle.ap_tracked.specs.Instances.{Inst}
use Rattle.ap_steps.specs.Moves.{held}
use Rattle.ap_steps.specs.Standing.{Standing, AtCall, InCode}
use Rattle.ap_instr.specs.Steps.{steps_from}
use Rattle.ap_standing.specs.Machine.{calling, inside}
use Rattle.ap_standing.specs.Holds.{IsApart, AtCallOf, Holds}
use Rattle.ap_standing.specs.Laws.{machine}
use Rattle.ap_standing.proofs.Machines.{steps-at}
use Rattle.ap_standing.proofs.Named.{named-applied, named-placed}
use Rattle.ap_machine.specs.Started.{called}
use Rattle.ap_machine.proofs.Tuples.{count-same}

-- ---- places one behind another

spread-at : (k : ℕ → Tree) (h : ℕ → ℕ) (p q n : ℕ) → ((i : ℕ) → i < n → h (i + p) ≡ q + i) → spread (λ w. k (h w)) p n ≡ spread k q n
spread-at k h p q zero e = refl
spread-at k h p q (suc n) e =
    ap₂ more (ap k (ap h (let z : p ≡ 0 + p = omega arith in z) ∙ e 0 (omega arith) ∙ (let z : q + 0 ≡ q = omega arith in z)))
    (spread-at k h (p + 1) (q + 1) n (λ i l. ap h (let z : i + (p + 1) ≡ suc i + p = omega arith in z) ∙ e (suc i) (omega arith) ∙ (let z : q + suc i ≡ (q + 1) + i = omega arith in z)))

tuple-spread : (k : ℕ → Tree) (rs : List ℕ) (q : ℕ) → ((i : ℕ) → i < length rs → held rs i ≡ q + i) → tuple_under k rs ≡ spread k q (length rs)
tuple-spread k [] q e = refl
tuple-spread k (r ∷ rs) q e =
    ap₂ more (ap k (e 0 (omega arith) ∙ (let z : q + 0 ≡ q = omega arith in z)))
    (tuple-spread k rs (q + 1) (λ i l. e (suc i) (omega arith) ∙ (let z : q + suc i ≡ (q + 1) + i = omega arith in z)))

spread-fits : (cs : List Raw) (k f : ℕ → Tree) → ((i : ℕ) → i < length cs → k i ≡ instance f (tree_at (trees cs) i)) → (p n : ℕ) → p + n ≤ length cs
    → spread k p n ≡ instance_all f (span (trees cs) p n)
spread-fits cs k f e p zero l = refl
spread-fits cs k f e p (suc n) l = ap₂ more (e p (omega arith)) (spread-fits cs k f e (p + 1) n (omega arith))

-- ---- names on arguments

arguments-applied : (p : ℕ) (ts : Trees) → arguments (applied p ts) ≡ ts
arguments-applied p none = refl
arguments-applied p (more t ts) = refl

Local-applied : (P : ℕ → Type 0) (p : ℕ) (ts : Trees) → LocalAll P ts → Local P (applied p ts)
Local-applied P p none h = tt
Local-applied P p (more t ts) h = h

-- ---- the machine

module _ (code : Compiled) (cs : List Raw) (base first count : ℕ) (ts : Trees) (x y roots : List ℕ)
    (within : first + count ≤ length cs) (tuple : span (trees cs) first count ≡ instance_all (shift base) ts)
    (args : (i : ℕ) → i < count → held x (i + 1) ≡ first + i) (len : length roots ≡ count) (each : (i : ℕ) → i < count → held roots i ≡ first + i) where
  abbrev here : Standing
  here = record { cells = cs; returns = []; roots = roots }

  -- the arguments are the tuple
  same-places : (k : ℕ → Tree) → tuple_under k roots ≡ spread (λ w. k (held x w)) 1 count
  same-places k =
      tuple-spread k roots first (λ i l. each i (omega arith)) ∙ ap (spread k first) len ∙ sym (spread-at k (held x) 1 first count args)

  -- which is an instance of the tuple
  arguments-fit : (k f : ℕ → Tree) → ((i : ℕ) → i < length cs → k i ≡ instance f (tree_at (trees cs) i)) → spread (λ w. k (held x w)) 1 count ≡ instance_all (λ v. f (v + base)) ts
  arguments-fit k f e =
      spread-at k (held x) 1 first count args ∙ spread-fits cs k f e first count within ∙ ap (instance_all f) tuple ∙ instance_all_twice (shift base) f ts

  -- and each instance fits
  own : (g : ℕ → Tree) → (k : ℕ → Tree) × Fits cs k × (spread (λ w. k (held x w)) 1 count ≡ instance_all g ts)
  own g =
      let f : ℕ → Tree = λ v. g (v - base) in
      let k : ℕ → Tree = λ i. instance f (tree_at (trees cs) i) in
      (k, (f, λ i l. refl), arguments-fit k f (λ i l. refl) ∙ instance_all-same (λ v. f (v + base)) g (λ v. ap g (let z : (v + base) - base ≡ v = omega arith in z)) ts)

  -- at a call
  module _ (number : ℕ) (q : Predicate) (known : slice_get code.predicates number ≡ Some q) (arity : count ≡ q.arity) (next : ℕ) where
    at-call : SameSet (AtCall code here (held x) q.name q.arity) (Inst (called q.name ts next))
    at-call gs t = (
      λ h.
          let f = h.2.0 in
          let e = arguments-fit h.0 f h.2.1 in (
            λ v. f (v + base),
            h.3 ∙ ap₂ more (ap (λ n. applied q.name (spread (λ w. h.0 (held x w)) 1 n)) (sym arity) ∙ ap (applied q.name) e ∙ sym (instance-applied (λ v. f (v + base)) q.name ts)) h.4.0,
            h.4.1 ∙ same-places h.0 ∙ e,
          ),
      λ h.
          let o = own h.0 in (
            o.0,
            none,
            o.1,
            h.1 ∙ ap (λ u. more u none) (instance-applied h.0 q.name ts ∙ ap (applied q.name) (sym o.2) ∙ ap (λ n. applied q.name (spread (λ w. o.0 (held x w)) 1 n)) arity),
            (refl, h.2 ∙ sym o.2 ∙ sym (same-places o.0)),
          ),
    )

    pub holds-call : IsApart q → LocalAll (λ v. v < next) ts → Holds code (machine cs x y [] roots [] (calling number)) (called q.name ts next ∷ [])
    holds-call apart below = (
      called q.name ts next ∷ [],
      [],
      (subst (λ (o : Option Predicate). SameSet (AtCallOf code here x o) (Inst (called q.name ts next))) (sym known) at-call, refl),
      ((((Local-applied (λ v. v < next) q.name ts below, tt), below, omega arith, tt), (named-applied q.name ts, tt), refl), tt),
      λ r e. subst IsApart (let d : Some q ≡ Some r = sym known ∙ e in let f : q ≡ r = cc in f) apart,
      tt,
      refl,
      refl,
    )

    -- at a built-in goal
    module _ (goal : IsOfBuiltin code q) where
      abbrev last : List Step
      last = proceed ∷ steps_from code (q.start + 1 + 1)

      goal-steps : steps_from code q.start ≡ builtin_step q.name q.arity ∷ last
      goal-steps =
          steps-at code q.start (BuiltinGoal goal.goal) goal.first (λ d. cc)
          ∙ ap₂ (λ p n. builtin_step p n ∷ steps_from code (q.start + 1)) goal.name goal.arity
          ∙ ap (λ is. builtin_step q.name q.arity ∷ is) (steps-at code (q.start + 1) Proceed goal.last (λ d. cc))

      at-goal : SameSet (InCode code here (held x) (held y) (builtin_step q.name q.arity ∷ last)) (Inst (called q.name ts next))
      at-goal gs t = (
        λ h.
            let f = h.3.0 in
            let e = arguments-fit h.0 f h.3.1 in
            let g : Tree = applied q.name (spread (λ w. h.0 (held x w)) 1 q.arity) in (
              λ v. f (v + base),
              h.5 ∙ ap₂ append_trees (h.4.1 ∙ ap (more g) h.4.2) h.6.0
                  ∙ ap (λ u. more u none) (ap (λ n. applied q.name (spread (λ w. h.0 (held x w)) 1 n)) (sym arity) ∙ ap (applied q.name) e ∙ sym (instance-applied (λ v. f (v + base)) q.name ts)),
              h.6.1 ∙ same-places h.0 ∙ e,
            ),
        λ h.
            let o = own h.0 in
            let g : Tree = applied q.name (spread (λ w. o.0 (held x w)) 1 q.arity) in (
              o.0,
              more g none,
              none,
              o.1,
              (none, refl, refl),
              h.1 ∙ ap (λ u. more u none) (instance-applied h.0 q.name ts ∙ ap (applied q.name) (sym o.2) ∙ ap (λ n. applied q.name (spread (λ w. o.0 (held x w)) 1 n)) arity),
              (refl, h.2 ∙ sym o.2 ∙ sym (same-places o.0)),
            ),
      )

      goal-openly : AsksOpenly (builtin_step q.name q.arity ∷ last)
      goal-openly = (λ k l. (none, refl), tt)

      pub holds-goal : LocalAll (λ v. v < next) ts → Holds code (machine cs x y [] roots [] (inside q.start)) (called q.name ts next ∷ [])
      holds-goal below = (
        called q.name ts next ∷ [],
        [],
        (subst (λ is. SameSet (InCode code here (held x) (held y) is) (Inst (called q.name ts next))) (sym goal-steps) at-goal, refl),
        ((((Local-applied (λ v. v < next) q.name ts below, tt), below, omega arith, tt), (named-applied q.name ts, tt), refl), tt),
        subst AsksOpenly (sym goal-steps) goal-openly,
        tt,
        refl,
        refl,
      )

  -- where the question begins
  module _ (width : count ≡ count_trees ts) (at : ℕ) (q : Query) (reads : ReadsAt code at (asked q)) (same : SameUpToNames ts (variables q.question.vars)) (good : IsQuery q) where
    -- the question's variables stay what they are
    own-name : (h : ℕ → Tree) (x : ℕ) → in_range q.question.vars x ≡ true → instance h (renamed q.question.vars 0 x) ≡ h x
    own-name h x r = ap (λ b. instance h (if b then var (x + 0) else atom 0)) r ∙ ap h (let z : x + 0 ≡ x = omega arith in z)

    body-is : (h : ℕ → Tree) → instance_all h (marked (tracked_start q).goals) ≡ marked (map (placed h) q.question.body)
    body-is h =
        sym (marks.places h (renamed q.question.vars 0) q.question.body)
        ∙ marked-agree (λ x. instance h (renamed q.question.vars 0 x)) h q.question.vars (own-name h) q.question.body good.question.body

    head-arguments : arguments (asked q).head ≡ variables q.question.vars
    head-arguments = arguments-applied QUERY (variables q.question.vars)

    head-count : count_trees (arguments (asked q).head) ≡ count
    head-count = ap count_trees head-arguments ∙ sym (count-same ts (variables q.question.vars) same) ∙ sym width

    in-question : SameSet (InCode code here (held x) (held y) (steps_from code at)) (Inst (tracked_start q))
    in-question gs t = (
      λ h.
          let a : Asks (asked q) (λ w. h.0 (held x w)) h.1 = reads.reads.only (λ w. h.0 (held x w)) (λ w. h.0 (held y w)) h.1 h.4 in (
            a.0,
            h.5 ∙ ap (append_trees h.1) h.6.0 ∙ append_trees-none h.1 ∙ a.2 ∙ sym (body-is a.0),
            h.6.1 ∙ same-places h.0 ∙ ap (spread (λ w. h.0 (held x w)) 1) (sym head-count) ∙ a.1 ∙ ap (instance_all a.0) head-arguments,
          ),
      λ h.
          let i = instance-same ts (variables q.question.vars) same h.0 in
          let o = own i.0 in
          let bs : Trees = marked (map (placed h.0) q.question.body) in
          let a : Asks (asked q) (λ w. o.0 (held x w)) bs = (
            h.0,
            ap (spread (λ w. o.0 (held x w)) 1) head-count ∙ o.2 ∙ i.1 ∙ ap (instance_all h.0) (sym head-arguments),
            refl,
          )
          in (
            o.0,
            bs,
            none,
            o.1,
            reads.reads.each (λ w. o.0 (held x w)) (λ w. o.0 (held y w)) bs a,
            h.1 ∙ body-is h.0 ∙ sym (append_trees-none bs),
            (refl, h.2 ∙ sym i.1 ∙ sym o.2 ∙ sym (same-places o.0)),
          ),
    )

    pub holds-question : Holds code (machine cs x y [] roots [] (inside at)) (tracked_start q ∷ [])
    holds-question = (
      tracked_start q ∷ [],
      [],
      (in-question, refl),
      ((starting.below q good, named-placed (renamed q.question.vars 0) q.question.vars q.question.body good.question.body, refl), tt),
      reads.openly,
      tt,
      refl,
      refl,
    )
