-- A program has one annotation by a rule and a table: from each goal on there is a longest run, and one alone.
use Rattle.std.proofs.Common.{◌≡◌, ℕ, zero, suc, ◌<◌, ◌≤◌, ◌⊎◌, inl, inr, Bool, true, false, ◌&&◌, nat_le, List, [], ◌∷◌, length, take, drop, refl, ap, ap₂, sym, ◌∙◌, subst, arith}
use Rattle.std.specs.List.{list_all}
use Rattle.std.proofs.lemmas.Bool.{false≢true, and_parts, and_from, le-leb, leb-true, leb-false}
use Rattle.std.proofs.lemmas.List.{length-drop}
use Rattle.ap_term.specs.Goals.{Part, Clause, Program}
use Rattle.ap_absunify.specs.declared.states.State.{State}
use Rattle.ap_patterns.specs.Given.{Patterns, after_part, is_analysed}
use Rattle.ap_udg.specs.declared.runs.Rule.{Rule}
use Rattle.ap_udg.specs.Runs.{is_user_call, may_stand, goals_of, IsRun, IsLongestRun}
use Rattle.ap_udg.specs.Grouped.{IsNext, Grouped, alone, together, done, next, group_in}
use Rattle.ap_udg.specs.Completed.{start, completed_body}
use Rattle.ap_udg.specs.Annotated.{has_groups, IsBody, IsAnnotatedClause, IsAnnotated}
use Rattle.ap_udg.specs.Laws.{OneAnnotatedLaw}
use Rattle.ap_udg.proofs.LongestRuns.{run-alone}

-- ---- there is a longest run

is_run : Rule → State → List Part → ℕ → Bool
is_run r s ps n = nat_le n 32 && (nat_le n (length ps) && (list_all is_user_call (take n ps) && may_stand r s (goals_of (take n ps))))

run_from : (r : Rule) (s : State) (ps : List Part) (n : ℕ) → is_run r s ps n ≡ true → IsRun r s ps n
unfolding is_run
run_from r s ps n h =
    let a = and_parts (nat_le n 32) (nat_le n (length ps) && (list_all is_user_call (take n ps) && may_stand r s (goals_of (take n ps)))) h in
    let b = and_parts (nat_le n (length ps)) (list_all is_user_call (take n ps) && may_stand r s (goals_of (take n ps))) a.1 in
    let c = and_parts (list_all is_user_call (take n ps)) (may_stand r s (goals_of (take n ps))) b.1 in
    record { few = leb-true n 32 a.0; there = leb-true n (length ps) b.0; user = c.0; stands = c.1 }

run_is : (r : Rule) (s : State) (ps : List Part) (n : ℕ) → IsRun r s ps n → is_run r s ps n ≡ true
unfolding is_run
run_is r s ps n h =
    and_from (nat_le n 32) (nat_le n (length ps) && (list_all is_user_call (take n ps) && may_stand r s (goals_of (take n ps)))) (le-leb n 32 h.few)
    (and_from (nat_le n (length ps)) (list_all is_user_call (take n ps) && may_stand r s (goals_of (take n ps))) (le-leb n (length ps) h.there)
    (and_from (list_all is_user_call (take n ps)) (may_stand r s (goals_of (take n ps))) h.user h.stands))

longest_up_to : (r : Rule) (s : State) (ps : List Part) (k : ℕ) → ((m : ℕ) → IsRun r s ps m → m ≤ k) → (n : ℕ) × IsLongestRun r s ps n
longest_up_to r s ps zero h = (0, record { run = run-alone r s ps 0 (omega arith) (omega arith) refl; longest = h })
longest_up_to r s ps (suc k) h = go (longest_up_to r s ps k) (is_run r s ps (suc k)) refl
  where
    less : (m : ℕ) → m ≤ suc k → (m ≡ suc k → ⊥) → m ≤ k
    less m l ne = omega (arith, l, ne)

    go : (((m : ℕ) → IsRun r s ps m → m ≤ k) → (n : ℕ) × IsLongestRun r s ps n) → (b : Bool) → is_run r s ps (suc k) ≡ b → (n : ℕ) × IsLongestRun r s ps n
    go ih true e = (suc k, record { run = run_from r s ps (suc k) e; longest = h })
    go ih false e = ih (λ m i. less m (h m i) (λ j. false≢true (sym e ∙ run_is r s ps (suc k) (subst (IsRun r s ps) j i))))

a_longest : (r : Rule) (s : State) (ps : List Part) → (n : ℕ) × IsLongestRun r s ps n
a_longest r s ps = longest_up_to r s ps 32 (λ m h. h.few)

one_longest : (r : Rule) (s : State) (ps : List Part) (n m : ℕ) → IsLongestRun r s ps n → IsLongestRun r s ps m → n ≡ m
one_longest r s ps n m h k = let a = h.longest m k.run in let b = k.longest n h.run in omega (arith, a, b)

-- ---- what comes first

a_next : (r : Rule) (s : State) (q : Part) (ps : List Part) → (n : ℕ) × (p : Part) × IsNext r s (q ∷ ps) n p × (1 ≤ n)
a_next r s q ps = let l = a_longest r s (q ∷ ps) in go l.0 l.1 (nat_le 2 l.0) refl
  where
    go : (n : ℕ) → IsLongestRun r s (q ∷ ps) n → (b : Bool) → nat_le 2 n ≡ b → (m : ℕ) × (p : Part) × IsNext r s (q ∷ ps) m p × (1 ≤ m)
    go n h true e =
        let two : 2 ≤ n = leb-true 2 n e in
        (n, group_in s (goals_of (take n (q ∷ ps))), together n (group_in s (goals_of (take n (q ∷ ps)))) h two refl, let l : 1 ≤ n = omega (arith, two) in l)
    go n h false e =
        let few : n < 2 = leb-false 2 n e in
        let one : n ≤ 1 = omega (arith, few) in
        (1, q, alone n 1 q h one refl refl, let l : 1 ≤ 1 = omega arith in l)

same_head : (p q : Part) → p ∷ [] ≡ q ∷ [] → p ≡ q
same_head p q e = cc

one_next : (r : Rule) (s : State) (ps : List Part) (n m : ℕ) (p q : Part) → IsNext r s ps n p → IsNext r s ps m q → (n ≡ m) × (p ≡ q)
one_next r s ps n0 m0 p0 q0 (alone i n p l one e h) (alone j m q k some f g) = (e ∙ sym f, same_head p q (sym h ∙ g))
one_next r s ps n0 m0 p0 q0 (alone i n p l one e h) (together m q k two g) = let same = one_longest r s ps i m l k in absurd (omega (arith, one, two, same))
one_next r s ps n0 m0 p0 q0 (together n p l two h) (alone j m q k one f g) = let same = one_longest r s ps n j l k in absurd (omega (arith, one, two, same))
one_next r s ps n0 m0 p0 q0 (together n p l two h) (together m q k some g) =
    let same = one_longest r s ps n m l k in (same, h ∙ ap (λ i. group_in s (goals_of (take i ps))) same ∙ sym g)

none_next : (r : Rule) (s : State) (ps : List Part) (n : ℕ) (p : Part) → IsNext r s ps n p → ps ≡ [] → ⊥
none_next r s ps n0 p0 (alone m n p l one e h) k = cc
none_next r s ps n0 p0 (together n p l two h) k = let there = l.run.there in let none : length ps ≡ 0 = ap length k in omega (arith, there, two, none)

-- ---- bodies

a_grouping : (r : Rule) (t : Patterns) (k : ℕ) (s : State) (ps : List Part) → length ps ≤ k → (qs : List Part) × Grouped r t s ps qs
a_grouping r t k s [] l = ([], done s [] refl)
a_grouping r t zero s (q ∷ ps) l = absurd (omega (arith, l))
a_grouping r t (suc k) s (q ∷ ps) l =
    let f = a_next r s q ps in
    let shorter : length (drop f.0 (q ∷ ps)) ≤ k = (let e = length-drop f.0 (q ∷ ps) in let some = f.3 in omega (arith, e, some, l)) in
    let g = a_grouping r t k (after_part t s f.1) (drop f.0 (q ∷ ps)) shorter in
    (f.1 ∷ g.0, next s (q ∷ ps) f.0 f.1 g.0 f.2 g.1)

pub record IsFurther (r : Rule) (t : Patterns) (s : State) (ps qs : List Part) : Type 0 where
  pub count : ℕ
  pub part : Part
  pub rest : List Part
  pub first : IsNext r s ps count part
  pub then : Grouped r t (after_part t s part) (drop count ps) rest
  pub whole : qs ≡ part ∷ rest

opened : (r : Rule) (t : Patterns) (s : State) (ps qs : List Part) → Grouped r t s ps qs → ((ps ≡ []) × (qs ≡ [])) ⊎ IsFurther r t s ps qs
opened r t s0 ps0 qs0 (done s ps e) = inl (e, refl)
opened r t s0 ps0 qs0 (next s ps n p qs i g) = inr (record { count = n; part = p; rest = qs; first = i; then = g; whole = refl })

one_grouping : (r : Rule) (t : Patterns) (s : State) (ps qs rs : List Part) → Grouped r t s ps qs → Grouped r t s ps rs → qs ≡ rs
one_grouping r t s0 ps0 qs0 rs (done s ps e) h = elim (opened r t s ps rs h) [ inl k ↦ sym k.1 | inr k ↦ absurd (none_next r s ps k.count k.part k.first e) ]
one_grouping r t s0 ps0 qs0 rs (next s ps n p qs i g) h = go (λ us. one_grouping r t (after_part t s p) (drop n ps) qs us g) (opened r t s ps rs h)
  where
    go : ((us : List Part) → Grouped r t (after_part t s p) (drop n ps) us → qs ≡ us) → ((ps ≡ []) × (rs ≡ [])) ⊎ IsFurther r t s ps rs → p ∷ qs ≡ rs
    go ih (inl k) = absurd (none_next r s ps n p i k.0)
    go ih (inr k) =
        let same = one_next r s ps n k.count p k.part i k.first in
        let other : Grouped r t (after_part t s p) (drop n ps) k.rest =
        subst (λ z. Grouped r t (after_part t s z) (drop n ps) k.rest) (sym same.1) (subst (λ z. Grouped r t (after_part t s k.part) (drop z ps) k.rest) (sym same.0) k.then) in
        ap₂ (λ x xs. x ∷ xs) same.1 (ih k.rest other) ∙ sym k.whole

pub a_body : (hand analysed : Bool) (r : Rule) (t : Patterns) (c : Clause) → (body : List Part) × IsBody hand analysed r t c body
a_body true analysed r t c = (completed_body analysed t (start t c) c.body, refl)
a_body false true r t c = a_grouping r t (length c.body) (start t c) c.body (omega arith)
a_body false false r t c = (c.body, refl)

one_body : (hand analysed : Bool) (r : Rule) (t : Patterns) (c : Clause) (body other : List Part) → IsBody hand analysed r t c body → IsBody hand analysed r t c other → body ≡ other
one_body true analysed r t c body other h k = h ∙ sym k
one_body false true r t c body other h k = one_grouping r t (start t c) c.body body other h k
one_body false false r t c body other h k = h ∙ sym k

-- ---- programs

an_annotation : (r : Rule) (t : Patterns) (P : Program) → (A : Program) × IsAnnotated r t P A
an_annotation r t [] = ([], refl)
an_annotation r t (c ∷ cs) =
    let b = a_body (has_groups c) (is_analysed c) r t c in
    let a = an_annotation r t cs in
    let d : Clause = record { head = c.head; body = b.0; vars = c.vars; line = c.line } in
    let is : IsAnnotatedClause r t c d = record { head = refl; body = b.1; vars = refl; line = refl } in
    (d ∷ a.0, (is, a.1))

same_clause : (c d : Clause) → c.head ≡ d.head → c.body ≡ d.body → c.vars ≡ d.vars → c.line ≡ d.line → c ≡ d
same_clause c d h b v l =
    ap (λ z. record { head = z; body = c.body; vars = c.vars; line = c.line }) h ∙ ap (λ z. record { head = d.head; body = z; vars = c.vars; line = c.line }) b
    ∙ ap (λ z. record { head = d.head; body = d.body; vars = z; line = c.line }) v ∙ ap (λ z. record { head = d.head; body = d.body; vars = d.vars; line = z }) l

one_annotation : (r : Rule) (t : Patterns) (P A B : Program) → IsAnnotated r t P A → IsAnnotated r t P B → A ≡ B
one_annotation r t [] A B h k = h ∙ sym k
one_annotation r t (c ∷ cs) [] B h k = absurd h
one_annotation r t (c ∷ cs) (d ∷ ds) [] h k = absurd k
one_annotation r t (c ∷ cs) (d ∷ ds) (e ∷ es) h k =
    ap₂ (λ x xs. x ∷ xs)
    (same_clause d e (h.0.head ∙ sym k.0.head) (one_body (has_groups c) (is_analysed c) r t c d.body e.body h.0.body k.0.body) (h.0.vars ∙ sym k.0.vars) (h.0.line ∙ sym k.0.line))
    (one_annotation r t cs ds es h.1 k.1)

pub one-annotated : OneAnnotatedLaw
one-annotated = record { some = an_annotation; one = one_annotation }
