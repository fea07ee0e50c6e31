-- Where a section comes to rest, the task that it is tied to does.
use Rattle.std.proofs.Common.{◌≡◌, ℕ, ◌-◌, ◌<◌, ◌≤◌, ◌⊎◌, inl, inr, true, false, ◌&&◌, nat_lt, not, List, [], ◌∷◌, map, Some, None, refl, ap, ap₂, sym, ◌∙◌, subst, arith}
use Rattle.std.specs.Prelude.{is_none}
use Rattle.std.specs.List.{AllZip}
use Rattle.ap_tracked.specs.Sets.{IsSetOf}
use Rattle.ap_term.specs.Tree.{Trees, none, more}
use Rattle.ap_term.specs.UpToNames.{SameUpToNames}
use Rattle.ap_term.specs.Goals.{Part, Program}
use Rattle.ap_term.specs.Search.{by_goals}
use Rattle.ap_core.specs.Tasks.{Answer, Task, task, Alternatives, exhausted, Alternative, state, frame}
use Rattle.ap_core.specs.Conditions.{has_goals, is_done, is_exhausted}
use Rattle.ap_core.specs.Relation.{Rules, answer, has_spent, only_if}
use Rattle.ap_tracked.specs.Tracked.{Goal, call, fork, untracked_goal, Tracked, untracked, opened}
use Rattle.ap_tracked.specs.Marks.{marked, opening}
use Rattle.ap_graft.specs.Variables.{LocalGoals, IsTrackedBelow}
use Rattle.ap_graft.proofs.Variables.{below_from}
use Rattle.ap_instr.specs.Code.{Compiled}
use Rattle.ap_resolution.proofs.Variants.{instances}
use Rattle.ap_steps.specs.Standing.{Waits}
use Rattle.ap_standing.specs.Machine.{returning, failed, Machine, standing}
use Rattle.ap_standing.specs.Holds.{AtReturn, SetAt, AreOpen, Holds, HoldsPoints}
use Rattle.ap_standing.proofs.Calls.{begins}
use Rattle.ap_standing.proofs.FirstGoals.{no-goals}
use Rattle.ap_standing.proofs.Machines.{failed-points, points-failed}
use Rattle.ap_standing.proofs.Moved.{some-return}
use Rattle.ap_tie.specs.Sections.{Stack, bottom, parcall, section}
use Rattle.ap_tie.specs.Shows.{Shows, before}
use Rattle.ap_tie.specs.Settled.{AreClosed}
use Rattle.ap_tie.specs.Tied.{IsAtAnswer, HoldsStack}
use Rattle.ap_tie.proofs.Calls as calls
use Rattle.ap_tied.specs.Ties.{IsSimple, IsInOrder, IsSearched, IsTied}
use Rattle.ap_tied.specs.Settling.{IsAnswerIn, HasGoals, RestingLaw}
use Rattle.ap_tied.proofs.Common.{closed_in_order, closed_in_round}

-- ---- goals and alternatives

some-goals : (gs : List Part) → (gs ≡ [] → ⊥) → by_goals gs false true ≡ true
some-goals [] h = absurd (h refl)
some-goals (g ∷ gs) h = refl

-- a state that is shown has goals where the machine's has some
goals-shown : (s u : Tracked) → (s ≡ u) ⊎ (s ≡ opening u) → (s.goals ≡ [] → ⊥) → has_goals (untracked u) ≡ true
goals-shown s u w h = some-goals (map untracked_goal u.goals) (λ e. h (back (calls.no-goals u.goals e) w))
  where
    back : u.goals ≡ [] → (s ≡ u) ⊎ (s ≡ opening u) → s.goals ≡ []
    back e (inl q) = ap (λ v. v.goals) q ∙ e
    back e (inr q) = ap (λ v. v.goals) q ∙ ap opened e

-- a group has goals, so none of it is left only where there was none
none-opened : (P : ℕ → Type 0) (gs : List Goal) → LocalGoals P gs → opened gs ≡ [] → gs ≡ []
none-opened P [] h e = refl
none-opened P (call t ∷ gs) h e = e
none-opened P (fork cs none own now ∷ gs) h e = absurd h.0
none-opened P (fork cs (more t ts) own now ∷ gs) h e = absurd (cc)

-- a state without goals is shown as it is
itself : (s u : Tracked) → IsTrackedBelow u → (s ≡ u) ⊎ (s ≡ opening u) → s.goals ≡ [] → s ≡ u
itself s u below (inl q) e = q
itself s u below (inr q) e =
    let d : u.goals ≡ [] = none-opened (λ v. v < u.next) u.goals below.0 (sym (ap (λ v. v.goals) q) ∙ e) in
    q ∙ ap (λ gs. record { goals = gs; tuple = u.tuple; next = u.next; steps = u.steps; fault = u.fault }) (ap opened d ∙ sym d)

done : (u : Tracked) → u.goals ≡ [] → u.fault ≡ None → is_done (untracked u) ≡ true
done u e f = ap₂ (λ gs x. by_goals (map untracked_goal gs) (is_none x) false) e f

none-shown : (p : Program) (o : Tracked) (xs : List Alternative) → AllZip (Shows p o) [] xs → xs ≡ []
none-shown p o [] h = refl
none-shown p o (x ∷ xs) h = absurd h

-- ---- all frames of a section at an answer are closed

frames-closed : (m : Machine) (c b : ℕ) (st : Stack) → IsInOrder (section m c b st) → m.now ≡ returning → AreClosed st
frames-closed m c b bottom h e = tt
frames-closed m c b (parcall f q rd w qs st) (inl d, k) e = subst (λ r. AreClosed (parcall f q r w qs st)) (sym d) k
frames-closed m c b (parcall f q rd w qs st) (inr d, k) e = absurd (let z : failed ≡ returning = sym d.now ∙ e in cc)

-- ---- what is left behind the first state

some-frame : (code : Compiled) (p : Rules) (o : Tracked) (roots : List ℕ) (r c : ℕ) (ys : List Alternative) (st : Stack) (l : Alternatives) → HoldsStack code p o roots r st l → (st ≡ bottom → ⊥)
    → is_exhausted (task r c (before ys l)) ≡ false
some-frame code p o roots r c (y ∷ ys) st l h n = refl
some-frame code p o roots r c [] bottom l h n = absurd (n refl)
some-frame code p o roots r c [] (parcall f q rd w qs st) l h n = ap (λ k. is_exhausted (task r c k)) h.13

some-shown : (p : Program) (o : Tracked) (r c : ℕ) (ss : List Tracked) (ys : List Alternative) (l : Alternatives) → AllZip (Shows p o) ss ys → (ss ≡ [] → ⊥) → is_exhausted (task r c (before ys l)) ≡ false
some-shown p o r c [] ys l h n = absurd (n refl)
some-shown p o r c (s ∷ ss) [] l h n = absurd h
some-shown p o r c (s ∷ ss) (y ∷ ys) l h n = refl

-- ---- a machine at an answer

-- its first state is one, and the others are those of the choice points
record IsAt (code : Compiled) (m : Machine) (ss : List Tracked) : Type 0 where
  first : Tracked
  left : List Tracked
  same : ss ≡ first ∷ left
  no_goals : first.goals ≡ []
  no_fault : first.fault ≡ None
  points : HoldsPoints code m.roots m.points left
  open_returns : AreOpen code m.returns

at-answer : (code : Compiled) (m : Machine) (ss : List Tracked) → IsAtAnswer m → Holds code m ss → IsAt code m ss
at-answer code m ss at h =
    let I : Trees → Trees → Type 0 = AtReturn code (standing m) in
    let is : IsSetOf I h.0 = subst (λ now. IsSetOf (SetAt code (standing m) m.x m.y now) h.0) at.0 h.2 in
    let b = begins I h.0 h.1 ss is h.3 (some-return code (standing m) h.5) h.7 in
    let own : I (marked b.0.goals) b.0.tuple = (b.2 (marked b.0.goals) b.0.tuple).1 (instances b.0) in
    let waits : Waits code [] m.roots own.0 (marked b.0.goals) b.0.tuple = subst (λ ws. Waits code ws m.roots own.0 (marked b.0.goals) b.0.tuple) at.1 own.2 in
    record { first = b.0; left = h.1; same = b.1; no_goals = no-goals b.0.goals waits.0; no_fault = b.3.2; points = h.6; open_returns = h.5 }

-- ---- where a section comes to rest

spent : (code : Compiled) (p : Rules) (o : Tracked) (m : Machine) (c b : ℕ) (st : Stack) (t : Task) → IsTied code p o (section m c b st) t → ((ss : List Tracked) → Holds code m ss → HasGoals ss) → b ≤ c → has_spent p.loud t ≡ true
spent code p o m c b st t tied due over = go tied.holds.0 tied.holds.1 tied.holds.4 (due tied.holds.0 tied.holds.3) tied.holds.6
  where
    go : (ss : List Tracked) (xs : List Alternative) → AllZip (Shows p.program o) ss xs → HasGoals ss → t ≡ task (b - c) c (before xs tied.holds.2) → has_spent p.loud t ≡ true
    go [] xs shown goals is = absurd goals
    go (s ∷ ss) [] shown goals is = absurd shown
    go (s ∷ ss) (frame y rd w ∷ ys) shown goals is = absurd shown.0
    go (s ∷ ss) (state y ∷ ys) ((u, kept, e, w), shown) goals is =
        let none_left : b - c ≡ 0 = omega (arith, over) in
        ap (has_spent p.loud) is ∙ ap₂ (λ d n. d && not (nat_lt 0 n)) (ap has_goals e ∙ goals-shown s u w goals) none_left

ended : (code : Compiled) (p : Rules) (o : Tracked) (m : Machine) (c b : ℕ) (t : Task) → IsTied code p o (section m c b bottom) t → m.now ≡ failed → m.points ≡ [] → is_exhausted t ≡ true
ended code p o m c b t tied at none_left =
    let ss = tied.holds.0 in
    let no_states : ss ≡ [] = subst (λ ps. HoldsPoints code m.roots ps ss) none_left (failed-points code m at ss tied.holds.3) in
    let shown = none-shown p.program o tied.holds.1 (subst (λ us. AllZip (Shows p.program o) us tied.holds.1) no_states tied.holds.4) in
    ap is_exhausted tied.holds.6 ∙ ap₂ (λ xs l. is_exhausted (task (b - c) c (before xs l))) shown tied.holds.5

module _ (code : Compiled) (p : Rules) (o : Tracked) (m : Machine) (c b : ℕ) (st : Stack) (t : Task) (searched : IsSearched code p o) (tied : IsTied code p o (section m c b st) t) (at : IsAtAnswer m) where
  abbrev l : Alternatives
  l = tied.holds.2

  abbrev past : Machine
  past = record m { now = failed }

  is_at : IsAt code m tied.holds.0
  is_at = at-answer code m tied.holds.0 at tied.holds.3

  holds : Holds code m (is_at.first ∷ is_at.left)
  holds = subst (Holds code m) is_at.same tied.holds.3

  closed : AreClosed st
  closed = frames-closed m c b st tied.in_order at.0

  -- what the task has left
  abbrev rest : List Alternative → Task
  rest ys = task (b - c) c (before ys l)

  abbrev Answers : Type 0
  Answers =
      (y : Answer) × (u : Task) × (answer t ≡ Some (y, u)) × ((z : Trees) → IsAnswerIn (section m c b st) z → SameUpToNames z y.tuple) × IsTied code p o (section past c b st) u
      × (m.points ≡ [] → st ≡ bottom → is_exhausted u ≡ true)
      × ((st ≡ bottom → ⊥) → is_exhausted u ≡ false)
      × (((s : Tracked) (ss : List Tracked) → Holds code m (s ∷ ss) → ss ≡ [] → ⊥) → is_exhausted u ≡ false)

  tied-past : (ys : List Alternative) → AllZip (Shows p.program o) is_at.left ys → IsSimple (rest ys) → IsTied code p o (section past c b st) (rest ys)
  tied-past ys shown simple = record {
    holds = (is_at.left, ys, l, points-failed code past refl is_at.open_returns is_at.left is_at.points, shown, tied.holds.5, refl);
    simple = simple;
    quiet = tied.quiet;
    in_order = closed_in_order past c b st closed;
    in_round = closed_in_round past c b st (rest ys) closed;
  }

  -- nothing is left where there is neither a choice point nor a frame
  none-left : (ys : List Alternative) → AllZip (Shows p.program o) is_at.left ys → m.points ≡ [] → st ≡ bottom → is_exhausted (rest ys) ≡ true
  none-left ys shown no_points no_frame =
      let no_states : is_at.left ≡ [] = subst (λ ps. HoldsPoints code m.roots ps is_at.left) no_points is_at.points in
      let none_here : ys ≡ [] = none-shown p.program o ys (subst (λ us. AllZip (Shows p.program o) us ys) no_states shown) in
      let none_older : l ≡ exhausted = subst (λ k. HoldsStack code p o m.roots (b - c) k l) no_frame tied.holds.5 in
      ap₂ (λ xs k. is_exhausted (task (b - c) c (before xs k))) none_here none_older

  answers : Answers
  answers = go tied.holds.1 (subst (λ us. AllZip (Shows p.program o) us tied.holds.1) is_at.same tied.holds.4) tied.holds.6
    where
      go : (xs : List Alternative) → AllZip (Shows p.program o) (is_at.first ∷ is_at.left) xs → t ≡ rest xs → Answers
      go [] shown is = absurd shown
      go (frame y rd w ∷ ys) shown is = absurd shown.0
      go (state y ∷ ys) ((u, kept, e, w), shown) is =
          let same : is_at.first ≡ u = itself is_at.first u (below_from p.program o u searched.program searched.below kept.from) w is_at.no_goals in
          let is_answer : is_done y ≡ true = ap is_done e ∙ done u (sym (ap (λ v. v.goals) same) ∙ is_at.no_goals) (sym (ap (λ v. v.fault) same) ∙ is_at.no_fault) in
          let simple : IsSimple (rest (state y ∷ ys)) = subst IsSimple is tied.simple in
          let found : Answer = record { tuple = y.tuple; next = y.next; steps = y.steps } in (
            found,
            rest ys,
            ap answer is ∙ ap (λ d. only_if d (found, rest ys)) is_answer,
            λ z h. subst (SameUpToNames z) (ap (λ v. v.tuple) same ∙ sym (ap (λ v. v.tuple) e)) (h at code is_at.first is_at.left holds),
            tied-past ys shown simple.1,
            none-left ys shown,
            some-frame code p o m.roots (b - c) c ys st l tied.holds.5,
            λ h. some-shown p.program o (b - c) c is_at.left ys l shown (h is_at.first is_at.left holds),
          )

pub resting : RestingLaw
resting = record { spent = spent; ended = ended; answered = answers }
