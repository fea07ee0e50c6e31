-- Rounds that go through the clauses again that read a changed pattern are the rounds of the definition.
use Rattle.std.proofs.Common.{◌≡◌, ℕ, zero, suc, ◌+◌, ◌⊎◌, inl, inr, Bool, true, false, List, [], ◌∷◌, Option, Some, None, length, refl, ap, sym, ◌∙◌, subst, arith}
use Rattle.std.specs.List.{flat_map, All}
use Rattle.std.proofs.Math.Path.{fun_ext}
use Rattle.ap_term.specs.Goals.{Program, Clause}
use Rattle.ap_absunify.specs.declared.states.State.TheVariants.{Unreachable}
use Rattle.ap_patterns.specs.declared.tables.Predicate.{Predicate}
use Rattle.ap_patterns.specs.declared.tables.Row.{Row}
use Rattle.ap_patterns.specs.declared.slots.Slot.{Slot}
use Rattle.ap_patterns.specs.declared.slots.Slot.TheVariants.{Call, Success}
use Rattle.ap_patterns.specs.declared.slots.Given.{Given}
use Rattle.ap_patterns.specs.declared.entries.Entries.{Entries}
use Rattle.ap_patterns.specs.Given.{Patterns, patterns, call_at, given, given_by_entries, given_by_clause}
use Rattle.ap_patterns.specs.Table.{predicate_of}
use Rattle.ap_patterns.specs.Covered.{IsHeld, IsClosed}
use Rattle.ap_patterns.proofs.Coverings.{Below, Below-covered, covered-Below}
use Rattle.ap_fixpoint.specs.Fix.{first, next, table, IsFix}
use Rattle.ap_fixpoint.specs.Reads.{is_among, reads, IsReread}
use Rattle.ap_fixpoint.specs.Rounds.{steps, changed}
use Rattle.ap_fixpoint.proofs.Members.{Has, Has-left, Has-right, Has-cases, Has-flat_map, Has-from}
use Rattle.ap_fixpoint.proofs.Joins.{AllKept, united_holds, united-kept, united-fewer}
use Rattle.ap_fixpoint.proofs.Stepping.{steps-united, unchanged}
use Rattle.ap_fixpoint.proofs.Reading.{unread}
use Rattle.ap_fixpoint.proofs.Unreached.{nothing-covered, unreached-clause}

pub table-kept : (E : Entries) (A : Program) (n : ℕ) → AllKept (table E A n)
table-kept E A zero x = tt
table-kept E A (suc n) x = united-kept (given E A (table E A n)) (table E A n) (table-kept E A n) x

pub none-first : patterns [] ≡ first
none-first = fun_ext go
  where
    go : (x : Slot) → patterns [] x ≡ first x
    go (Call p) = refl
    go (Success p) = refl

-- what the loop keeps: t is a table of the sequence, and gs is all that may change it
pub record IsGoing (E : Entries) (A : Program) (t : Patterns) (gs : List Given) : Type 0 where
  pub round : ℕ
  pub reached : table E A round ≡ t
  pub only : (g : Given) → Has g gs → Has g (given E A t)
  pub enough : (g : Given) → Has g (given E A t) → Has g gs ⊎ Below g.pattern (t g.slot)

-- at first no clause is called
pub going-first : (E : Entries) (A : Program) → IsGoing E A (patterns []) (given_by_entries E A)
going-first E A = record {
  round = 0;
  reached = sym none-first;
  only = λ g h. Has-left g (given_by_entries E A) (flat_map (given_by_clause (patterns [])) A) h;
  enough = λ g h. elim (Has-cases g (given_by_entries E A) (flat_map (given_by_clause (patterns [])) A) h) [
    | inl i ↦ inl i
    | inr i ↦ (let r = Has-from (given_by_clause (patterns [])) g A i in
        inr (Below-covered g.pattern (patterns [] g.slot) (nothing-covered (patterns []) (given_by_clause (patterns []) r.0) (unreached-clause (patterns []) r.0 (never (predicate_of r.0.head))) g r.2)))
  ];
}
  where
    never : (p : Option Predicate) → call_at (patterns []) p ≡ Unreachable
    never None = refl
    never (Some p) = refl

pub going-kept : (E : Entries) (A : Program) (t : Patterns) (gs : List Given) → IsGoing E A t gs → AllKept t
going-kept E A t gs h = subst AllKept h.reached (table-kept E A h.round)

-- the round is that of the definition
pub going-steps : (E : Entries) (A : Program) (t : Patterns) (gs : List Given) → IsGoing E A t gs → steps gs gs t ≡ next E A t
going-steps E A t gs h =
    let k = going-kept E A t gs h in
    steps-united gs t k ∙ fun_ext (λ x. united-fewer gs (given E A t) t x (k x) h.only h.enough)

pub going-next : (E : Entries) (A : Program) (t : Patterns) (gs now : List Given) → IsGoing E A t gs → IsReread A (changed gs gs t) (steps gs gs t) now → IsGoing E A (steps gs gs t) now
going-next E A t gs now h read = record {
  round = suc h.round;
  reached = ap (next E A) h.reached ∙ sym round;
  only = λ g i. Has-right g (given_by_entries E A) (flat_map (given_by_clause (steps gs gs t)) A) (read.only g i);
  enough = λ g i. elim (Has-cases g (given_by_entries E A) (flat_map (given_by_clause (steps gs gs t)) A) i) [
    | inl j ↦ inr (covered g (Has-left g (given_by_entries E A) (flat_map (given_by_clause t) A) j))
    | inr j ↦ (let r = Has-from (given_by_clause (steps gs gs t)) g A j in by_clause g r.0 r.1 r.2 (reads (changed gs gs t) r.0) refl)
  ];
}
  where
    round : steps gs gs t ≡ next E A t
    round = going-steps E A t gs h

    covered : (g : Given) → Has g (given E A t) → Below g.pattern (steps gs gs t g.slot)
    covered g i = subst (λ z. Below g.pattern (z g.slot)) (sym round) (united_holds (given E A t) t g i)

    by_clause : (g : Given) (c : Clause) → Has c A → Has g (given_by_clause (steps gs gs t) c) → (b : Bool) → reads (changed gs gs t) c ≡ b → Has g now ⊎ Below g.pattern (steps gs gs t g.slot)
    by_clause g c i j true e = elim (read.enough c i e g j) [ inl k ↦ inl k | inr k ↦ inr (Below-covered g.pattern (steps gs gs t g.slot) k) ]
    by_clause g c i j false e =
        inr (covered g (Has-right g (given_by_entries E A) (flat_map (given_by_clause t) A)
        (Has-flat_map (given_by_clause t) g c A i (subst (Has g) (unread (changed gs gs t) t (steps gs gs t) (λ x k. unchanged gs gs t x k) c e) j))))

-- ---- the end

later : (E : Entries) (A : Program) (m k : ℕ) → next E A (table E A m) ≡ table E A m → table E A (k + m) ≡ table E A m
later E A m zero h = ap (table E A) (omega arith)
later E A m (suc k) h = let i : suc k + m ≡ suc (k + m) = omega arith in ap (table E A) i ∙ ap (next E A) (later E A m k h) ∙ h

pub one-end : (E : Entries) (A : Program) (m n : ℕ) → next E A (table E A m) ≡ table E A m → next E A (table E A n) ≡ table E A n → table E A m ≡ table E A n
one-end E A m n h k = sym (later E A m n h) ∙ ap (table E A) (let i : n + m ≡ m + n = omega arith in i) ∙ later E A n m k

pub going-end : (E : Entries) (A : Program) (t : Patterns) (gs : List Given) → IsGoing E A t gs → changed gs gs t ≡ [] → IsFix E A (steps gs gs t)
going-end E A t gs h none = record {
  round = h.round;
  reached = h.reached ∙ sym stays;
  last = ap (next E A) stays ∙ sym now;
  first_one = λ m i. one-end E A m h.round i (ap (next E A) h.reached ∙ sym now ∙ stays ∙ sym h.reached) ∙ h.reached ∙ sym stays;
}
  where
    stays : steps gs gs t ≡ t
    stays = fun_ext (λ x. unchanged gs gs t x (ap (is_among x) none))

    now : steps gs gs t ≡ next E A t
    now = going-steps E A t gs h

-- ---- the loop

pub going-init : (E : Entries) (A P : Program) (rs : List Row) (gs : List Given) → P ≡ A → rs ≡ [] → gs ≡ given_by_entries E P → IsGoing E A (patterns rs) gs
going-init E A P rs gs p r g =
    subst (λ z. IsGoing E A (patterns rs) z) (sym (g ∙ ap (given_by_entries E) p)) (subst (λ z. IsGoing E A (patterns z) (given_by_entries E A)) (sym r) (going-first E A))

pub going-turn : (E : Entries) (A P : Program) (t new : Patterns) (gs now : List Given) (ch : List Slot) → P ≡ A → IsGoing E A t gs → ch ≡ changed gs gs t → new ≡ steps gs gs t
    → IsReread P ch new now → IsGoing E A new now
going-turn E A P t new gs now ch p h c s r =
    subst (λ z. IsGoing E A z now) (sym s)
    (going-next E A t gs now h (subst (λ z. IsReread A (changed gs gs t) z now) s (subst (λ z. IsReread A z new now) c (subst (λ z. IsReread z ch new now) p r))))

pub going-done : (E : Entries) (A : Program) (t new : Patterns) (gs : List Given) (ch : List Slot) → IsGoing E A t gs → ch ≡ changed gs gs t → length ch ≡ 0 → new ≡ steps gs gs t → IsFix E A new
going-done E A t new gs ch h c l s = subst (IsFix E A) (sym s) (going-end E A t gs h (sym c ∙ nothing ch l))
  where
    nothing : (ys : List Slot) → length ys ≡ 0 → ys ≡ []
    nothing [] k = refl
    nothing (y ∷ ys) k = absurd (omega arith)

-- ---- laws

holds_all : (P : Given → Type 0) (gs : List Given) → ((g : Given) → Has g gs → P g) → All P gs
holds_all P [] h k d l = absurd (omega (arith, l))
holds_all P (g ∷ gs) h zero d l = h g (inl refl)
holds_all P (g ∷ gs) h (suc k) d l = holds_all P gs (λ f i. h f (inr i)) k d (omega arith)

pub fix-closed : (E : Entries) (A : Program) (t : Patterns) → IsFix E A t → IsClosed E A t
fix-closed E A t h =
    holds_all (IsHeld t) (given E A t) (λ g i. covered-Below g.pattern (t g.slot) (subst (λ z. Below g.pattern (z g.slot)) h.last (united_holds (given E A t) t g i)))

pub one-fix : (E : Entries) (A : Program) (t u : Patterns) → IsFix E A t → IsFix E A u → t ≡ u
one-fix E A t u h k = sym h.reached ∙ k.first_one h.round (ap (next E A) h.reached ∙ h.last ∙ sym h.reached)
