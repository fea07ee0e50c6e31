-- A search for a variable through terms that are shared.
use Rattle.std.proofs.Common.{◌≡◌, ◌⊎◌, ℕ, zero, suc, ◌+◌, ◌-◌, ◌<◌, ◌≤◌, Bool, true, false, ◌||◌, nat_eq, List, [], ◌∷◌, ◌++◌, refl, sym, ap, ◌∙◌, subst, arith, inl, inr, Option, Some, None, eq-eqb}
use Rattle.std.specs.List.{list_any}
use Rattle.std.proofs.lemmas.Bool.{false≢true, cases_eq, or_left, or_right}
use Rattle.ap_term.specs.Tree.{Tree, node}
use Rattle.ap_term.specs.Vars.{occurs, occurs_all}
use Rattle.ap_cells.specs.Trees.{tree_at, span}
use Rattle.ap_cells.specs.declared.walk.Range.{Range}
use Rattle.ap_cells.specs.Walks.{weight, weight_all, Walked, InRange, InRanges, IsHere, Ahead, Search, Meets, Gathers}
use Rattle.ap_term.proofs.Solutions.{same_var}
use Rattle.ap_cells.proofs.Rounds.{or_split}

-- each place in whose term x stands leads to one in whose term it stands that is no heavier
abbrev pub Leads : ℕ → List Tree → List ℕ → List Range → List ℕ → List Range → Type 0
Leads x ts ms rs ns qs = (p : ℕ) → IsHere ms rs p → occurs x (tree_at ts p) ≡ true → (q : ℕ) × (IsHere ns qs q × ((occurs x (tree_at ts q) ≡ true) × (weight (tree_at ts q) ≤ weight (tree_at ts p))))

pub Ahead-leads : (x : ℕ) (ts : List Tree) (ms ns : List ℕ) (rs qs : List Range) (w : ℕ) → Leads x ts ms rs ns qs → Ahead x ts ms rs w → Ahead x ts ns qs w
Ahead-leads x ts ms ns rs qs w l a =
    let q = l a.at a.here a.stands in
    record { at = q.0; stands = q.1.1.0; lighter = (let h = a.lighter in let k = q.1.1.1 in omega arith); here = q.1.0 }

-- a turn in which nothing is marked
pub Search-on : (x : ℕ) (ts : List Tree) (root : ℕ) (ms : List ℕ) (rs qs : List Range) → Search x ts root ms rs
    → ((p : ℕ) → InRanges p qs → occurs x (tree_at ts p) ≡ true → InRanges p rs)
    → Leads x ts ms rs ms qs → Search x ts root ms qs
Search-on x ts root ms rs qs s b l = record {
  belongs = λ p i o. s.belongs p (b p i o) o;
  begun = λ o. Ahead-leads x ts ms ms rs qs (weight (tree_at ts root) + 1) l (s.begun o);
  closes = λ p m o. Ahead-leads x ts ms ms rs qs (weight (tree_at ts p)) l (s.closes p m o);
}

pub InRanges-push : (p : ℕ) (rs : List Range) (r : Range) → InRanges p rs → InRanges p (rs ++ r ∷ [])
InRanges-push p [] r h = absurd h
InRanges-push p (q ∷ rs) r (inl h) = inl h
InRanges-push p (q ∷ rs) r (inr h) = inr (InRanges-push p rs r h)

pub InRanges-last : (p : ℕ) (rs : List Range) (r : Range) → InRange p r → InRanges p (rs ++ r ∷ [])
InRanges-last p [] r h = inl h
InRanges-last p (q ∷ rs) r h = inr (InRanges-last p rs r h)

pub InRanges-pop : (p : ℕ) (rs : List Range) (r : Range) → InRanges p (rs ++ r ∷ []) → InRanges p rs ⊎ InRange p r
InRanges-pop p [] r (inl h) = inr h
InRanges-pop p [] r (inr h) = absurd h
InRanges-pop p (q ∷ rs) r (inl h) = inl (inl h)
InRanges-pop p (q ∷ rs) r (inr h) = elim (InRanges-pop p rs r h) [ inl a ↦ inl (inr a) | inr b ↦ inr b ]

-- the start
pub Search-start : (x : ℕ) (ts : List Tree) (root : ℕ) (r : Range) → r.first ≡ root → r.count ≡ 1 → Search x ts root [] (r ∷ [])
Search-start x ts root r e f = record {
  belongs = λ p i o. belongs p i o;
  begun = λ o. record { at = root; stands = o; lighter = omega arith; here = inr (inl (omega arith, omega arith)) };
  closes = λ p m o. absurd (false≢true m);
}
  where
    belongs : (p : ℕ) → InRanges p (r ∷ []) → occurs x (tree_at ts p) ≡ true → occurs x (tree_at ts root) ≡ true
    belongs p (inl h) o = let a = h.0 in let b = h.1 in let k : p ≡ root = omega arith in subst (λ q. occurs x (tree_at ts q) ≡ true) k o
    belongs p (inr h) o = absurd h

-- an empty run, and the next one
pub Search-pop : (x : ℕ) (ts : List Tree) (root : ℕ) (ms : List ℕ) (run next : Range) (popped rs : List Range) → run.count ≡ 0 → rs ≡ popped ++ next ∷ [] → Search x ts root ms (run ∷ rs) → Search x ts root ms (next ∷ popped)
Search-pop x ts root ms run next popped rs z e s = Search-on x ts root ms (run ∷ rs) (next ∷ popped) s (λ p i o. inr (back p i)) (λ p h o. (p, (forth p h, (o, omega arith))))
  where
    back : (p : ℕ) → InRanges p (next ∷ popped) → InRanges p rs
    back p (inl h) = subst (InRanges p) (sym e) (InRanges-last p popped next h)
    back p (inr h) = subst (InRanges p) (sym e) (InRanges-push p popped next h)

    forth : (p : ℕ) → IsHere ms (run ∷ rs) p → IsHere ms (next ∷ popped) p
    forth p (inl m) = inl m
    forth p (inr (inl h)) = let a = h.0 in let b = h.1 in absurd (omega arith)
    forth p (inr (inr h)) = elim (InRanges-pop p popped next (subst (InRanges p) e h)) [ inl a ↦ inr (inr a) | inr b ↦ inr (inl b) ]

-- nothing before what is left
pub Search-empty : (x : ℕ) (ts : List Tree) (root : ℕ) (ms : List ℕ) (run : Range) (rs : List Range) → run.count ≡ 0 → Search x ts root ms rs → Search x ts root ms (run ∷ rs)
Search-empty x ts root ms run rs z s = Search-on x ts root ms rs (run ∷ rs) s (λ p i o. back p i) (λ p h o. (p, (forth p h, (o, omega arith))))
  where
    back : (p : ℕ) → InRanges p (run ∷ rs) → InRanges p rs
    back p (inl h) = let a = h.0 in let b = h.1 in absurd (omega arith)
    back p (inr h) = h

    forth : (p : ℕ) → IsHere ms rs p → IsHere ms (run ∷ rs) p
    forth p (inl m) = inl m
    forth p (inr h) = inr (inr h)

-- the places after the first are left, in whose term x doesn't stand
pub Search-left : (x : ℕ) (ts : List Tree) (root : ℕ) (ms : List ℕ) (run : Range) (rs qs : List Range) → 0 < run.count → (occurs x (tree_at ts run.first) ≡ true → ⊥)
    → ((p : ℕ) → (InRanges p rs → InRanges p qs) × ((run.first < p → p < run.first + run.count → InRanges p qs) × (InRanges p qs → InRanges p rs ⊎ ((run.first < p) × (p < run.first + run.count)))))
    → Search x ts root ms (run ∷ rs) → Search x ts root ms qs
Search-left x ts root ms run rs qs n f place s = Search-on x ts root ms (run ∷ rs) qs s (λ p i o. back p i) (λ p h o. (p, (forth p h o, (o, omega arith))))
  where
    back : (p : ℕ) → InRanges p qs → InRanges p (run ∷ rs)
    back p i = elim ((place p).1.1 i) [
      | inl a ↦ inr a
      | inr b ↦ let c = b.0 in let d = b.1 in inl (omega arith, omega arith)
    ]

    forth : (p : ℕ) → IsHere ms (run ∷ rs) p → occurs x (tree_at ts p) ≡ true → IsHere ms qs p
    forth p (inl m) o = inl m
    forth p (inr (inl h)) o = elim (cases_eq p run.first) [
      | inl k ↦ absurd (f (subst (λ q. occurs x (tree_at ts q) ≡ true) k o))
      | inr k ↦ let a = h.0 in let b = h.1 in inr ((place p).1.0 (omega arith) (omega arith))
    ]
    forth p (inr (inr h)) o = inr ((place p).0 h)

-- the first place is passed over: x doesn't stand there, or the place is marked
pub Search-behind : (x : ℕ) (ts : List Tree) (root : ℕ) (ms : List ℕ) (run rest : Range) (rs : List Range) → 0 < run.count → rest ≡ record { first = run.first + 1; count = run.count - 1 }
    → (occurs x (tree_at ts run.first) ≡ true → list_any (nat_eq run.first) ms ≡ true) → Search x ts root ms (run ∷ rs) → Search x ts root ms (rest ∷ rs)
Search-behind x ts root ms run rest rs n e f s = Search-on x ts root ms (run ∷ rs) (rest ∷ rs) s (λ p i o. back p i) (λ p h o. (p, (forth p h o, (o, omega arith))))
  where
    e0 : rest.first ≡ run.first + 1
    e0 = ap (λ r. r.first) e

    e1 : rest.count ≡ run.count - 1
    e1 = ap (λ r. r.count) e

    back : (p : ℕ) → InRanges p (rest ∷ rs) → InRanges p (run ∷ rs)
    back p (inl h) = let a = h.0 in let b = h.1 in inl (omega (arith, e0, e1), omega (arith, e0, e1))
    back p (inr h) = inr h

    forth : (p : ℕ) → IsHere ms (run ∷ rs) p → occurs x (tree_at ts p) ≡ true → IsHere ms (rest ∷ rs) p
    forth p (inl m) o = inl m
    forth p (inr (inl h)) o = elim (cases_eq p run.first) [
      | inl k ↦ inl (subst (λ q. list_any (nat_eq q) ms ≡ true) (sym k) (f (subst (λ q. occurs x (tree_at ts q) ≡ true) k o)))
      | inr k ↦ let a = h.0 in let b = h.1 in inr (inl (omega (arith, e0, e1), omega (arith, e0, e1)))
    ]
    forth p (inr (inr h)) o = inr (inr h)

-- where x stands in one of the terms of some places
pub stands_at : (x : ℕ) (ts : List Tree) (p n : ℕ) → occurs_all x (span ts p n) ≡ true → (q : ℕ) × ((p ≤ q) × ((q < p + n) × ((occurs x (tree_at ts q) ≡ true) × (weight (tree_at ts q) ≤ weight_all (span ts p n)))))
stands_at x ts p zero h = absurd (false≢true h)
stands_at x ts p (suc n) h = elim (or_split (occurs x (tree_at ts p)) (occurs_all x (span ts (p + 1) n)) h) [
  | inl o ↦ (p, (omega arith, (omega arith, (o, omega arith))))
  | inr o ↦
      let k = stands_at x ts (p + 1) n o in
      let a = k.1.0 in
      let b = k.1.1.0 in
      let c = k.1.1.1.1 in
      (k.0, (omega arith, (omega arith, (k.1.1.1.0, omega arith))))
]

pub stands_all : (x : ℕ) (ts : List Tree) (p n q : ℕ) → p ≤ q → q < p + n → occurs x (tree_at ts q) ≡ true → occurs_all x (span ts p n) ≡ true
stands_all x ts p zero q h l o = absurd (omega arith)
stands_all x ts p (suc n) q h l o = elim (cases_eq q p) [
  | inl e ↦ ap (λ b. b || occurs_all x (span ts (p + 1) n)) (subst (λ r. occurs x (tree_at ts r) ≡ true) e o)
  | inr m ↦ ap (λ b. occurs x (tree_at ts p) || b) (stands_all x ts (p + 1) n q (omega arith) (omega arith) o) ∙ or_true (occurs x (tree_at ts p))
]
  where
    or_true : (a : Bool) → (a || true) ≡ true
    or_true true = refl
    or_true false = refl

-- the first place's compound term is opened, and maybe marked
pub Search-opened : (x : ℕ) (ts : List Tree) (root : ℕ) (ms ns : List ℕ) (run args : Range) (rs qs : List Range) (name : ℕ) → 0 < run.count → tree_at ts run.first ≡ node name (span ts args.first args.count)
    → ((p : ℕ) → (InRanges p rs → InRanges p qs) × ((run.first < p → p < run.first + run.count → InRanges p qs) × (InRanges p qs → InRanges p rs ⊎ ((run.first < p) × (p < run.first + run.count)))))
    → ((y : ℕ) → list_any (nat_eq y) ms ≡ true → list_any (nat_eq y) ns ≡ true)
    → ((y : ℕ) → list_any (nat_eq y) ns ≡ true → (list_any (nat_eq y) ms ≡ true) ⊎ (y ≡ run.first))
    → Search x ts root ms (run ∷ rs) → Search x ts root ns (args ∷ qs)
Search-opened x ts root ms ns run args rs qs name n e place more_marks marks s = record {
  belongs = belongs;
  begun = λ o. Ahead-leads x ts ms ns (run ∷ rs) (args ∷ qs) (weight (tree_at ts root) + 1) leads (s.begun o);
  closes = λ p m o. closes p (marks p m) o;
}
  where
    some : occurs x (tree_at ts run.first) ≡ true → (q : ℕ) × (InRanges q (args ∷ qs) × ((occurs x (tree_at ts q) ≡ true) × (weight (tree_at ts q) < weight (tree_at ts run.first))))
    some o =
        let k = stands_at x ts args.first args.count (sym (ap (occurs x) e) ∙ o) in
        let w = ap weight e in
        let l = k.1.1.1.1 in
        (k.0, (inl (k.1.0, k.1.1.0), (k.1.1.1.0, omega arith)))

    belongs : (p : ℕ) → InRanges p (args ∷ qs) → occurs x (tree_at ts p) ≡ true → occurs x (tree_at ts root) ≡ true
    belongs p (inl h) o = s.belongs run.first (inl (omega arith, omega arith)) (ap (occurs x) e ∙ stands_all x ts args.first args.count p h.0 h.1 o)
    belongs p (inr h) o = elim ((place p).1.1 h) [
      | inl a ↦ s.belongs p (inr a) o
      | inr b ↦ let c = b.0 in let d = b.1 in s.belongs p (inl (omega arith, omega arith)) o
    ]

    leads : Leads x ts ms (run ∷ rs) ns (args ∷ qs)
    leads p (inl m) o = (p, (inl (more_marks p m), (o, omega arith)))
    leads p (inr (inl h)) o = elim (cases_eq p run.first) [
      | inl k ↦
          let q = some (subst (λ r. occurs x (tree_at ts r) ≡ true) k o) in
          let l = q.1.1.1 in
          let w = ap (λ r. weight (tree_at ts r)) k in
          (q.0, (inr q.1.0, (q.1.1.0, omega arith)))
      | inr k ↦ let a = h.0 in let b = h.1 in (p, (inr (inr ((place p).1.0 (omega arith) (omega arith))), (o, omega arith)))
    ]
    leads p (inr (inr h)) o = (p, (inr (inr ((place p).0 h)), (o, omega arith)))

    closes : (p : ℕ) → (list_any (nat_eq p) ms ≡ true) ⊎ (p ≡ run.first) → occurs x (tree_at ts p) ≡ true → Ahead x ts ns (args ∷ qs) (weight (tree_at ts p))
    closes p (inl m) o = Ahead-leads x ts ms ns (run ∷ rs) (args ∷ qs) (weight (tree_at ts p)) leads (s.closes p m o)
    closes p (inr k) o =
        let q = some (subst (λ r. occurs x (tree_at ts r) ≡ true) k o) in
        let l = q.1.1.1 in
        let w = ap (λ r. weight (tree_at ts r)) k in
        record { at = q.0; stands = q.1.1.0; lighter = omega arith; here = inr q.1.0 }

-- the same places are marked
pub Search-marks : (x : ℕ) (ts : List Tree) (root : ℕ) (ms ns : List ℕ) (rs : List Range) → ((y : ℕ) → list_any (nat_eq y) ms ≡ true → list_any (nat_eq y) ns ≡ true) → ((y : ℕ) → list_any (nat_eq y) ns ≡ true → list_any (nat_eq y) ms ≡ true)
    → Search x ts root ms rs → Search x ts root ns rs
Search-marks x ts root ms ns rs f g s = record {
  belongs = s.belongs;
  begun = λ o. Ahead-leads x ts ms ns rs rs (weight (tree_at ts root) + 1) leads (s.begun o);
  closes = λ p m o. Ahead-leads x ts ms ns rs rs (weight (tree_at ts p)) leads (s.closes p (g p m) o);
}
  where
    leads : Leads x ts ms rs ns rs
    leads p (inl m) o = (p, (inl (f p m), (o, omega arith)))
    leads p (inr h) o = (p, (inr h, (o, omega arith)))

-- nothing is left
nowhere : (x : ℕ) (ts : List Tree) (root : ℕ) (ms : List ℕ) (run : Range) → run.count ≡ 0 → Search x ts root ms (run ∷ []) → (w : ℕ) → Ahead x ts ms (run ∷ []) w → ⊥
nowhere x ts root ms run z s zero a = let l = a.lighter in absurd (omega arith)
nowhere x ts root ms run z s (suc w) a = go a.here (λ b. nowhere x ts root ms run z s w b)
  where
    go : IsHere ms (run ∷ []) a.at → (Ahead x ts ms (run ∷ []) w → ⊥) → ⊥
    go (inl m) k =
        let b = s.closes a.at m a.stands in
        let l = a.lighter in
        let h = b.lighter in
        k (record { at = b.at; stands = b.stands; lighter = omega arith; here = b.here })
    go (inr (inl h)) k = let c = h.0 in let d = h.1 in absurd (omega arith)
    go (inr (inr h)) k = h

pub Search-ends : (x : ℕ) (ts : List Tree) (root : ℕ) (ms : List ℕ) (run : Range) (rs : List Range) → run.count ≡ 0 → rs ≡ [] → Search x ts root ms (run ∷ rs) → occurs x (tree_at ts root) ≡ false
Search-ends x ts root ms run rs z k s = go (occurs x (tree_at ts root)) refl
  where
    empty : Search x ts root ms (run ∷ [])
    empty = subst (λ qs. Search x ts root ms (run ∷ qs)) k s

    go : (b : Bool) → occurs x (tree_at ts root) ≡ b → occurs x (tree_at ts root) ≡ false
    go true e = absurd (nowhere x ts root ms run z empty (weight (tree_at ts root) + 1) (empty.begun e))
    go false e = e

-- a walk begins
pub Gathers-start : (x : ℕ) (ts : List Tree) (root : ℕ) (old : List ℕ) (w : Walked) → Search x ts root w.marks w.ranges → Gathers x ts root old old w
Gathers-start x ts root old w s = record {
  kept = λ e. e;
  sound = λ e. or_left (list_any (nat_eq x) old) (occurs x (tree_at ts root)) e;
  left = λ e. s;
}

-- the next variable is marked
pub Gathers-next : (x : ℕ) (ts : List Tree) (root : ℕ) (old marks new : List ℕ) (w u : Walked) (v : ℕ) → (Search x ts root w.marks w.ranges → Meets x ts root u.marks u.ranges (Some v))
    → list_any (nat_eq x) new ≡ (list_any (nat_eq x) marks || nat_eq x v) → Gathers x ts root old marks w → Gathers x ts root old new u
Gathers-next x ts root old marks new w u v m e g = go (list_any (nat_eq x) marks) refl
  where
    go : (b : Bool) → list_any (nat_eq x) marks ≡ b → Gathers x ts root old new u
    go true k = record {
      kept = λ o. e ∙ ap (λ b. b || nat_eq x v) k;
      sound = λ n. g.sound k;
      left = λ n. absurd (false≢true (sym n ∙ e ∙ ap (λ b. b || nat_eq x v) k));
    }
    go false k =
        let h = m (g.left k) in
        let f : list_any (nat_eq x) new ≡ nat_eq x v = e ∙ ap (λ b. b || nat_eq x v) k in
        record {
          kept = λ o. absurd (false≢true (sym k ∙ g.kept o));
          sound = λ n. or_right (list_any (nat_eq x) old) (occurs x (tree_at ts root)) (h.0 (sym (same_var x v (sym f ∙ n))));
          left = λ n. h.1 (λ q. false≢true (sym n ∙ f ∙ eq-eqb x v (sym q)));
        }

-- no variable is left
pub Gathers-ends : (x : ℕ) (ts : List Tree) (root : ℕ) (old marks : List ℕ) (w : Walked) → (Search x ts root w.marks w.ranges → occurs x (tree_at ts root) ≡ false) → Gathers x ts root old marks w
    → list_any (nat_eq x) marks ≡ (list_any (nat_eq x) old || occurs x (tree_at ts root))
Gathers-ends x ts root old marks w m g = go (list_any (nat_eq x) marks) (list_any (nat_eq x) old) refl refl
  where
    go : (b a : Bool) → list_any (nat_eq x) marks ≡ b → list_any (nat_eq x) old ≡ a → list_any (nat_eq x) marks ≡ (list_any (nat_eq x) old || occurs x (tree_at ts root))
    go true a k o = k ∙ sym (g.sound k)
    go false true k o = absurd (false≢true (sym k ∙ g.kept o))
    go false false k o = k ∙ sym (ap (λ b. b || occurs x (tree_at ts root)) o ∙ m (g.left k))

-- the walk is at its end
pub Meets-none : (x : ℕ) (ts : List Tree) (root : ℕ) (ms : List ℕ) (rs : List Range) (o : Option ℕ) → ((v : ℕ) → o ≡ Some v → ⊥) → Meets x ts root ms rs o → occurs x (tree_at ts root) ≡ false
Meets-none x ts root ms rs None n m = m
Meets-none x ts root ms rs (Some v) n m = absurd (n v refl)
