-- Each pass that changes something adds a check to a group or takes a group away, and neither comes back: so the passes end, and at one program.
use Rattle.std.proofs.Common.{◌≡◌, ℕ, zero, suc, ◌+◌, ◌<◌, ◌≤◌, ◌⊎◌, inl, inr, Bool, true, false, ◌&&◌, ◌||◌, not, if◌then◌else◌, nat_eq, List, [], ◌∷◌, ◌++◌, length, refl, ap, sym, ◌∙◌, subst, arith}
use Rattle.std.proofs.lemmas.Bool.{false≢true, and_from, or_left, or_right, not-true}
use Rattle.std.specs.List.{filter}
use Rattle.ap_term.specs.declared.clauses.Check.{Check}
use Rattle.ap_term.specs.declared.clauses.Check.TheVariants.{Ground, Indep}
use Rattle.ap_term.specs.Tree.{Trees, none, more}
use Rattle.ap_term.specs.Goals.{Part, call, group, calls, Program}
use Rattle.ap_sharing.proofs.Elements.{same_test}
use Rattle.ap_absunify.specs.declared.states.State.{State}
use Rattle.ap_patterns.specs.declared.entries.Entries.{Entries}
use Rattle.ap_patterns.specs.Given.{Patterns, is_analysed}
use Rattle.ap_conditions.specs.FullCondition.{full_condition}
use Rattle.ap_conditions.specs.Simplified.{gives, left}
use Rattle.ap_conditions.specs.Laws.{IsIn}
use Rattle.ap_certify.specs.Written.{same_check, is_written}
use Rattle.ap_fixpoint.specs.Fix.{IsFix}
use Rattle.ap_fixpoint.proofs.Fixing.{one-fix}
use Rattle.ap_fixpoint.proofs.Ending.{a-fix}
use Rattle.ap_udg.specs.declared.runs.Rule.TheVariants.{Conditional, Unconditional}
use Rattle.ap_udg.specs.Completed.{missing, behind, start}
use Rattle.ap_udg.proofs.OneAnnotation.{one-annotated}
use Rattle.ap_mel.specs.declared.annotations.Kind.{Kind}
use Rattle.ap_mel.specs.declared.annotations.Kind.TheVariants as kind
use Rattle.ap_mel.specs.Mended.{is_none, is_given_up, mended, mended_body, mended_program, is_bare, is_settled, is_body_settled, is_clause_settled, is_program_settled}
use Rattle.ap_mel.specs.Made.{IsFirst, Passes, begun, passed, IsMade}
use Rattle.ap_mel.specs.Laws.{OneMadeLaw}
use Rattle.ap_mel.proofs.Certifying.{first-kept, passes-length, made}

-- ---- the checks of a condition that aren't written

abbrev one_unless : Bool → ℕ
one_unless true = 0
one_unless false = 1

abbrev pub unwritten : List Check → List Check → ℕ
unwritten cs [] = 0
unwritten cs (d ∷ ds) = one_unless (is_written d cs) + unwritten cs ds

written_left : (d : Check) (cs ms : List Check) → is_written d cs ≡ true → is_written d (cs ++ ms) ≡ true
written_left d [] ms h = absurd (false≢true h)
written_left d (c ∷ cs) ms h = go (same_check d c) refl h (written_left d cs ms)
  where
    go : (b : Bool) → same_check d c ≡ b → (b || is_written d cs) ≡ true → (is_written d cs ≡ true → is_written d (cs ++ ms) ≡ true) → (same_check d c || is_written d (cs ++ ms)) ≡ true
    go true e k ih = or_left (same_check d c) (is_written d (cs ++ ms)) e
    go false e k ih = or_right (same_check d c) (is_written d (cs ++ ms)) (ih k)

same_itself : (c : Check) → same_check c c ≡ true
same_itself (Ground x) = same_test x
same_itself (Indep x y) = or_left (nat_eq x x && nat_eq y y) (nat_eq x y && nat_eq y x) (and_from (nat_eq x x) (nat_eq y y) (same_test x) (same_test y))

pub written_right : (d : Check) (cs ms : List Check) → IsIn d ms → is_written d (cs ++ ms) ≡ true
written_right d [] [] h = absurd h
written_right d [] (m ∷ ms) (inl e) = or_left (same_check d m) (is_written d ms) (ap (same_check d) (sym e) ∙ same_itself d)
written_right d [] (m ∷ ms) (inr h) = or_right (same_check d m) (is_written d ms) (written_right d [] ms h)
written_right d (c ∷ cs) ms h = or_right (same_check d c) (is_written d (cs ++ ms)) (written_right d cs ms h)

fewer_one : (a b : Bool) → (a ≡ true → b ≡ true) → one_unless b ≤ one_unless a
fewer_one true b h = subst (λ c. one_unless c ≤ 0) (sym (h refl)) (omega arith)
fewer_one false true h = omega arith
fewer_one false false h = omega arith

fewer : (cs ms ds : List Check) → unwritten (cs ++ ms) ds ≤ unwritten cs ds
fewer cs ms [] = omega arith
fewer cs ms (d ∷ ds) = omega (arith, fewer_one (is_written d cs) (is_written d (cs ++ ms)) (written_left d cs ms), fewer cs ms ds)

-- with a check that wasn't written there are fewer
one_fewer : (cs ms ds : List Check) (d : Check) → IsIn d ds → is_written d cs ≡ false → IsIn d ms → unwritten (cs ++ ms) ds < unwritten cs ds
one_fewer cs ms [] d h w i = absurd h
one_fewer cs ms (c ∷ ds) d (inl e) w i =
    let now : is_written c (cs ++ ms) ≡ true = ap (λ z. is_written z (cs ++ ms)) (sym e) ∙ written_right d cs ms i in
    let before : is_written c cs ≡ false = ap (λ z. is_written z cs) (sym e) ∙ w in
    omega (arith, ap one_unless now, ap one_unless before, fewer cs ms ds)
one_fewer cs ms (c ∷ ds) d (inr h) w i = omega (arith, fewer_one (is_written c cs) (is_written c (cs ++ ms)) (written_left c cs ms), one_fewer cs ms ds d h w i)

of_filtered : (p : Check → Bool) (cs : List Check) (c : Check) → IsIn c (filter p cs) → IsIn c cs × (p c ≡ true)
of_filtered p [] c h = absurd h
of_filtered p (d ∷ cs) c h = go (p d) refl h (of_filtered p cs c)
  where
    go : (b : Bool) → p d ≡ b → IsIn c (if b then d ∷ filter p cs else filter p cs) → (IsIn c (filter p cs) → IsIn c cs × (p c ≡ true)) → IsIn c (d ∷ cs) × (p c ≡ true)
    go true e (inl i) ih = (inl i, ap p i ∙ e)
    go true e (inr i) ih = let r = ih i in (inr r.0, r.1)
    go false e i ih = let r = ih i in (inr r.0, r.1)

some_missing : (s : State) (cs : List Check) (gs : Trees) → is_none (missing s cs gs) ≡ false → unwritten (cs ++ missing s cs gs) (full_condition gs) < unwritten cs (full_condition gs)
some_missing s cs gs h = go (missing s cs gs) refl h
  where
    go : (ms : List Check) → missing s cs gs ≡ ms → is_none ms ≡ false → unwritten (cs ++ missing s cs gs) (full_condition gs) < unwritten cs (full_condition gs)
    go [] e k = absurd (false≢true (sym k))
    go (m ∷ ms) e k =
        let here : IsIn m (missing s cs gs) = subst (λ zs. IsIn m zs) (sym e) (inl refl) in
        let r = of_filtered (λ c. not (is_written c cs)) (left s (full_condition gs)) m here in
        one_fewer cs (missing s cs gs) (full_condition gs) m (of_filtered (λ c. not (gives s c)) (full_condition gs) m r.0).0 (not-true (is_written m cs) r.1) here

-- ---- the weight of a program: its groups, and the checks that they may yet get

abbrev pub weight_part : Part → ℕ
weight_part (call g) = 0
weight_part (group cs gs) = suc (unwritten cs (full_condition gs))

abbrev pub weight_body : List Part → ℕ
weight_body [] = 0
weight_body (p ∷ ps) = weight_part p + weight_body ps

abbrev pub weight : Program → ℕ
weight [] = 0
weight (c ∷ cs) = weight_body c.body + weight cs

weight-append : (ps qs : List Part) → weight_body (ps ++ qs) ≡ weight_body ps + weight_body qs
weight-append [] qs = omega arith
weight-append (p ∷ ps) qs = let e = weight-append ps qs in omega (arith, e)

weight-calls : (gs : Trees) → weight_body (calls gs) ≡ 0
weight-calls none = refl
weight-calls (more g gs) = let e = weight-calls gs in omega (arith, e)

-- a weight that stays, or is less where something changes
abbrev Lighter : Bool → ℕ → ℕ → Type 0
Lighter true now before = now ≤ before
Lighter false now before = now < before

lighter-both : (a b : Bool) (now before next last : ℕ) → Lighter a now before → Lighter b next last → Lighter (a && b) (now + next) (before + last)
lighter-both true true now before next last h k = omega (arith, h, k)
lighter-both true false now before next last h k = omega (arith, h, k)
lighter-both false true now before next last h k = omega (arith, h, k)
lighter-both false false now before next last h k = omega (arith, h, k)

part_lighter : (bare : Bool) (s : State) (p : Part) → Lighter (is_settled bare s p) (weight_body (mended bare s p)) (weight_part p)
part_lighter bare s (call g) = omega arith
part_lighter bare s (group cs gs) = go (is_given_up bare s cs gs) (is_none (missing s cs gs)) refl
  where
    go : (b c : Bool) → is_none (missing s cs gs) ≡ c
        → Lighter (not b && c) (weight_body (if b then calls gs else group (cs ++ missing s cs gs) gs ∷ [])) (suc (unwritten cs (full_condition gs)))
    go true c e = let none = weight-calls gs in omega (arith, none)
    go false true e = let less = fewer cs (missing s cs gs) (full_condition gs) in omega (arith, less)
    go false false e = let less = some_missing s cs gs e in omega (arith, less)

body_lighter : (bare analysed : Bool) (t : Patterns) (s : State) (ps : List Part) → Lighter (is_body_settled bare analysed t s ps) (weight_body (mended_body bare analysed t s ps)) (weight_body ps)
body_lighter bare analysed t s [] = omega arith
body_lighter bare analysed t s (p ∷ ps) =
    subst (λ n. Lighter (is_settled bare s p && is_body_settled bare analysed t (behind analysed t s p) ps) n (weight_part p + weight_body ps))
    (sym (weight-append (mended bare s p) (mended_body bare analysed t (behind analysed t s p) ps)))
    (lighter-both (is_settled bare s p) (is_body_settled bare analysed t (behind analysed t s p) ps) _ _ _ _ (part_lighter bare s p) (body_lighter bare analysed t (behind analysed t s p) ps))

pub program-lighter : (k : Kind) (t : Patterns) (P A : Program) → length P ≡ length A → Lighter (is_program_settled k t P A) (weight (mended_program k t P A)) (weight A)
program-lighter k t [] [] l = omega arith
program-lighter k t [] (d ∷ ds) l = absurd (omega (arith, l))
program-lighter k t (c ∷ cs) [] l = absurd (omega (arith, l))
program-lighter k t (c ∷ cs) (d ∷ ds) l =
    lighter-both (is_clause_settled k t c d) (is_program_settled k t cs ds) _ _ _ _ (body_lighter (is_bare k c) (is_analysed d) t (start t d) d.body) (program-lighter k t cs ds (omega (arith, l)))

-- a pass that changes something
pub pass-lighter : (k : Kind) (t : Patterns) (P A B : Program) → length P ≡ length A → B ≡ mended_program k t P A → is_program_settled k t P A ≡ false → weight B < weight A
pass-lighter k t P A B l e h = subst (λ b. Lighter b (weight B) (weight A)) h (subst (λ z. Lighter (is_program_settled k t P A) (weight z) (weight A)) (sym e) (program-lighter k t P A l))

-- ---- the passes end

a_first : (k : Kind) (t : Patterns) (P : Program) → (A : Program) × IsFirst k t P A
a_first kind.Mel t P = one-annotated.some Conditional t P
a_first kind.Udg t P = one-annotated.some Unconditional t P
a_first kind.None t P = (P, refl)

search_end : (k : Kind) (E : Entries) (P first : Program) (t : Patterns) → IsFix E P t → IsFirst k t P first → (n : ℕ) (A : Program) → Passes k E P first A → weight A < n → (B : Program) × IsMade k E P B
search_end k E P first t f one zero A ps l = absurd (omega (arith, l))
search_end k E P first t f one (suc n) A ps l = let u = a-fix E A in go (search_end k E P first t f one n) u.0 u.1 (is_program_settled k u.0 P A) refl
  where
    same : length P ≡ length A
    same = passes-length k E P first A (first-kept k t P first one).0 ps

    go : ((B : Program) → Passes k E P first B → weight B < n → (C : Program) × IsMade k E P C) → (u : Patterns) → IsFix E A u → (b : Bool) → is_program_settled k u P A ≡ b → (C : Program) × IsMade k E P C
    go ih u g true e = (A, made k E P first A t u f one ps g same e)
    go ih u g false e =
        let less = pass-lighter k u P A (mended_program k u P A) same refl e in
        ih (mended_program k u P A) (passed A u (mended_program k u P A) ps g refl) (omega (arith, less, l))

a_made : (k : Kind) (E : Entries) (P : Program) → (A : Program) × IsMade k E P A
a_made k E P =
    let t = a-fix E P in
    let a = a_first k t.0 P in
    search_end k E P a.0 t.0 t.1 a.1 (suc (weight a.0)) a.0 (begun a.0 refl) (omega arith)

-- ---- and at one program

one_first : (k : Kind) (t : Patterns) (P A B : Program) → IsFirst k t P A → IsFirst k t P B → A ≡ B
one_first kind.Mel t P A B h i = one-annotated.one Conditional t P A B h i
one_first kind.Udg t P A B h i = one-annotated.one Unconditional t P A B h i
one_first kind.None t P A B h i = h ∙ sym i

-- behind the first pass there are the others
after_one : (k : Kind) (E : Entries) (P A B C : Program) (t : Patterns) → IsFix E A t → C ≡ mended_program k t P A → Passes k E P A B → (B ≡ A) ⊎ Passes k E P C B
after_one k E P A B0 C t f e (begun B i) = inl i
after_one k E P A B0 C t f e (passed D u B ps g i) = go (after_one k E P A D C t f e ps)
  where
    go : (D ≡ A) ⊎ Passes k E P C D → (B ≡ A) ⊎ Passes k E P C B
    go (inl j) =
        let same : u ≡ t = one-fix E A u t (subst (λ z. IsFix E z u) j g) f in
        inr (begun B (i ∙ ap (λ z. mended_program k z P D) same ∙ ap (mended_program k t P) j ∙ sym e))
    go (inr qs) = inr (passed D u B qs g i)

-- of two programs that passes come to, one leads to the other
compared : (k : Kind) (E : Entries) (P first A B : Program) → Passes k E P first A → Passes k E P first B → Passes k E P A B ⊎ Passes k E P B A
compared k E P first A0 B (begun A e) qs = inl (subst (λ z. Passes k E P z B) (sym e) qs)
compared k E P first A0 B (passed D t A ps f e) qs = go (compared k E P first D B ps qs)
  where
    go : Passes k E P D B ⊎ Passes k E P B D → Passes k E P A B ⊎ Passes k E P B A
    go (inl rs) = elim (after_one k E P D B A t f e rs) [
      | inl i ↦ inr (passed D t A (begun D (sym i)) f e)
      | inr i ↦ inl i
    ]
    go (inr rs) = inr (passed D t A rs f e)

stays_there : (k : Kind) (E : Entries) (P A B : Program) (t : Patterns) → IsFix E A t → mended_program k t P A ≡ A → Passes k E P A B → B ≡ A
stays_there k E P A B0 t f e (begun B i) = i
stays_there k E P A B0 t f e (passed D u B ps g i) = go (stays_there k E P A D t f e ps)
  where
    go : D ≡ A → B ≡ A
    go j =
        let same : u ≡ t = one-fix E A u t (subst (λ z. IsFix E z u) j g) f in
        i ∙ ap (λ z. mended_program k z P D) same ∙ ap (mended_program k t P) j ∙ e

one_made : (k : Kind) (E : Entries) (P A B : Program) → IsMade k E P A → IsMade k E P B → A ≡ B
one_made k E P A B h i = elim (compared k E P h.first A B h.passes other) [
  | inl ps ↦ sym (stays_there k E P A B h.table h.table_is h.last ps)
  | inr ps ↦ stays_there k E P B A i.table i.table_is i.last ps
]
  where
    tables : i.written ≡ h.written
    tables = one-fix E P i.written h.written i.written_is h.written_is

    firsts : i.first ≡ h.first
    firsts = one_first k h.written P i.first h.first (subst (λ z. IsFirst k z P i.first) tables i.first_is) h.first_is

    other : Passes k E P h.first B
    other = subst (λ z. Passes k E P z B) firsts i.passes

pub one-made : OneMadeLaw
one-made = record { some = a_made; one = one_made }
