-- Entering a clause covers.
use Rattle.std.proofs.Common.{◌≡◌, ℕ, zero, suc, ◌+◌, ◌-◌, ◌<◌, ◌≤◌, ◌⊎◌, inl, inr, Bool, true, false, ◌||◌, nat_eq, cond, List, map, if◌then◌else◌, nat_le, IsTrue, refl, ap, ap₂, sym, ◌∙◌, subst, arith}
use Rattle.std.proofs.lemmas.Bool.{false≢true, or_left, or_right}
use Rattle.ap_term.proofs.Facts.{same_bool}
use Rattle.ap_term.specs.Tree.{Tree, Trees, var, int, atom, node, none, more, count_trees}
use Rattle.ap_term.specs.Substitution.{instance, instance_all}
use Rattle.ap_term.specs.Vars.{occurs, occurs_all}
use Rattle.ap_sharing.specs.VarSet.{has, empty, just, union}
use Rattle.ap_sharing.specs.Sets.{In, Is, sets_of, insert_set}
use Rattle.ap_sharing.specs.Share.{Share, Member, nonground, norm}
use Rattle.ap_sharing.specs.Covering.{only}
use Rattle.ap_freeness.specs.Free.{CoversFree, IsVar}
use Rattle.ap_absunify.specs.MostGeneral.{MostGeneral, Unify_all}
use Rattle.ap_absunify.specs.declared.states.State.{State}
use Rattle.ap_absunify.specs.declared.states.State.TheVariants.{Unreachable, Reachable}
use Rattle.ap_absunify.specs.State.{Covers, project}
use Rattle.ap_absunify.specs.AfterEqual.{after_all}
use Rattle.ap_patterns.specs.Places.{arguments, argument}
use Rattle.ap_patterns.specs.Entering.{own, with_own, beside, beside_own, head_equations, enter, entered, own_after}
use Rattle.ap_absunify.proofs.AfterEqual.{after_all-covers}
use Rattle.ap_absunify.proofs.Renamed.{Covers-same}
use Rattle.ap_absunify.proofs.Unite.{project-covers}
use Rattle.ap_absunify.proofs.Vars.{or_cases, and_both, decide, refuted}
use Rattle.ap_patterns.proofs.AfterCall.{of_argument}
use Rattle.ap_patterns.proofs.CallPatterns.{In-sets_of}
use Rattle.ap_sharing.proofs.Covers.{Member-norm}
use Rattle.ap_sharing.proofs.Elements.{same_test, clash, has-empty, has-union, has-just, both_left}
use Rattle.ap_sharing.proofs.Lists.{In-map, In-put, In-stays}
use Rattle.ap_term.proofs.Solutions.{same_var, instance_all_agree}
use Rattle.ap_term.specs.WellFormed.{callable, numbered, numbered_all}
use borrow.Author.Tests.{leb-true}

pub own-range : (n y : ℕ) → has (own n) y ≡ true → (0 < y) × (y ≤ n)
own-range zero y h = absurd (clash (has empty y) h (has-empty y))
own-range (suc n) y h = go (or_cases (has (own n) y) (has (just (suc n)) y) (sym (has-union (own n) (just (suc n)) y) ∙ h)) (own-range n y)
  where
    go : (has (own n) y ≡ true) ⊎ (has (just (suc n)) y ≡ true) → (has (own n) y ≡ true → (0 < y) × (y ≤ n)) → (0 < y) × (y ≤ suc n)
    go (inr k) ih = let e : y ≡ suc n = same_var y (suc n) (sym (has-just (suc n) y) ∙ k) in (omega arith, omega arith)
    go (inl k) ih = let r = ih k in (r.0, omega (arith, r.1))

pub own-has : (n y : ℕ) → 0 < y → y ≤ n → has (own n) y ≡ true
own-has zero y l h = absurd (omega arith)
own-has (suc n) y l h = has-union (own n) (just (suc n)) y ∙ go (nat_eq y (suc n)) refl (own-has n y l)
  where
    go : (b : Bool) → nat_eq y (suc n) ≡ b → (y ≤ n → has (own n) y ≡ true) → (has (own n) y || has (just (suc n)) y) ≡ true
    go true e ih = or_right (has (own n) y) (has (just (suc n)) y) (has-just (suc n) y ∙ e)
    go false e ih = or_left (has (own n) y) (has (just (suc n)) y) (ih (below (suc n - y) refl))
      where
        below : (d : ℕ) → suc n - y ≡ d → y ≤ n
        below zero k = let q : y ≡ suc n = omega arith in absurd (clash (nat_eq y (suc n)) (ap (λ z. nat_eq z (suc n)) q ∙ same_test (suc n)) e)
        below (suc d) k = omega arith

with_own-kept : (P : ℕ → Type 0) (n : ℕ) (ss : List ℕ) → In P ss → In P (with_own n ss)
with_own-kept P zero ss h = h
with_own-kept P (suc n) ss h = In-stays P (with_own n ss) (just (suc n)) (with_own-kept P n ss h)

pub with_own-own : (P : ℕ → Type 0) (n y : ℕ) (ss : List ℕ) → has (own n) y ≡ true → P (just y) → In P (with_own n ss)
with_own-own P zero y ss h p = absurd (clash (has empty y) h (has-empty y))
with_own-own P (suc n) y ss h p = go (or_cases (has (own n) y) (has (just (suc n)) y) (sym (has-union (own n) (just (suc n)) y) ∙ h)) (with_own-own P n y ss)
  where
    go : (has (own n) y ≡ true) ⊎ (has (just (suc n)) y ≡ true) → (has (own n) y ≡ true → P (just y) → In P (with_own n ss)) → In P (insert_set (with_own n ss) (just (suc n)))
    go (inr k) ih = In-put P (with_own n ss) (just (suc n)) (subst (λ z. P (just z)) (same_var y (suc n) (sym (has-just (suc n) y) ∙ k)) p)
    go (inl k) ih = In-stays P (with_own n ss) (just (suc n)) (ih k p)

-- ---- places beside variables

pub beside-back : (n k s y : ℕ) → has (beside n k s) y ≡ true → (n < y) × (y ≤ n + k) × (has s (y - n) ≡ true)
beside-back n zero s y h = absurd (clash (has empty y) h (has-empty y))
beside-back n (suc k) s y h =
    go (or_cases (has (beside n k s) y) (has (if has s (suc k) then just (n + suc k) else empty) y) (sym (has-union (beside n k s) (if has s (suc k) then just (n + suc k) else empty) y) ∙ h)) (beside-back n k s y)
  where
    last : (b : Bool) → has s (suc k) ≡ b → has (if b then just (n + suc k) else empty) y ≡ true → (n < y) × (y ≤ n + suc k) × (has s (y - n) ≡ true)
    last true e j =
        let q : y ≡ n + suc k = same_var y (n + suc k) (sym (has-just (n + suc k) y) ∙ j) in
        let d : y - n ≡ suc k = omega arith in
        (omega arith, omega arith, ap (has s) d ∙ e)
    last false e j = absurd (clash (has empty y) j (has-empty y))

    go : (has (beside n k s) y ≡ true) ⊎ (has (if has s (suc k) then just (n + suc k) else empty) y ≡ true)
        → (has (beside n k s) y ≡ true → (n < y) × (y ≤ n + k) × (has s (y - n) ≡ true)) → (n < y) × (y ≤ n + suc k) × (has s (y - n) ≡ true)
    go (inl j) ih = let r = ih j in (r.0, omega (arith, r.1), r.2)
    go (inr j) ih = last (has s (suc k)) refl j

pub beside-forth : (n k s y : ℕ) → n < y → y ≤ n + k → has s (y - n) ≡ true → has (beside n k s) y ≡ true
beside-forth n zero s y l h e = absurd (omega arith)
beside-forth n (suc k) s y l h e =
    has-union (beside n k s) (if has s (suc k) then just (n + suc k) else empty) y ∙ go (n + suc k - y) refl (λ i. beside-forth n k s y l i e)
  where
    last : (b : Bool) → b ≡ true → y ≡ n + suc k → has (if b then just (n + suc k) else empty) y ≡ true
    last true i q = has-just (n + suc k) y ∙ ap (λ z. nat_eq z (n + suc k)) q ∙ same_test (n + suc k)
    last false i q = absurd (false≢true i)

    go : (d : ℕ) → n + suc k - y ≡ d → (y ≤ n + k → has (beside n k s) y ≡ true) → (has (beside n k s) y || has (if has s (suc k) then just (n + suc k) else empty) y) ≡ true
    go zero i ih =
        let q : y ≡ n + suc k = omega arith in
        let j : y - n ≡ suc k = omega arith in
        or_right (has (beside n k s) y) (has (if has s (suc k) then just (n + suc k) else empty) y) (last (has s (suc k)) (sym (ap (has s) j) ∙ e) q)
    go (suc d) i ih = or_left (has (beside n k s) y) (has (if has s (suc k) then just (n + suc k) else empty) y) (ih (omega arith))

pub argument_low : (i : ℕ) (ts : Trees) (j : ℕ) → j < i → argument i ts j ≡ atom 0
argument_low i none j h = refl
argument_low i (more t ts) j h =
    ap (λ b. cond b t (argument (suc i) ts j)) (refuted (nat_eq j i) (λ e. let q : j ≡ i = same_var j i e in absurd (omega arith))) ∙ argument_low (suc i) ts j (omega arith)

pub argument_high : (i : ℕ) (ts : Trees) (j : ℕ) → i + count_trees ts ≤ j → argument i ts j ≡ atom 0
argument_high i none j h = refl
argument_high i (more t ts) j h =
    ap (λ b. cond b t (argument (suc i) ts j)) (refuted (nat_eq j i) (λ e. let q : j ≡ i = same_var j i e in absurd (omega arith))) ∙ argument_high (suc i) ts j (omega arith)

module _ (n next k : ℕ) (gs : Trees) (few : count_trees gs ≡ k) (old : (w j : ℕ) → occurs w (argument 1 gs j) ≡ true → w < next) where
  own_at : (y : ℕ) → has (own n) y ≡ true → entered n next gs y ≡ var (y + next)
  own_at y h = ap (λ b. cond b (var (y + next)) (argument 1 gs (y - n))) h

  place_at : (y : ℕ) → has (own n) y ≡ false → entered n next gs y ≡ argument 1 gs (y - n)
  place_at y h = ap (λ b. cond b (var (y + next)) (argument 1 gs (y - n))) h

  no_zero : (w : ℕ) → occurs w (argument 1 gs 0) ≡ false
  no_zero w = ap (occurs w) (argument_low 1 gs 0 (omega arith))

  -- what stands at a place is one of the k
  in_places : (w y : ℕ) → occurs w (argument 1 gs (y - n)) ≡ true → (n < y) × (y ≤ n + k)
  in_places w y o = (low (y - n) refl, high (y - (n + k)) refl)
    where
      low : (d : ℕ) → y - n ≡ d → n < y
      low zero e = absurd (clash (occurs w (argument 1 gs (y - n))) o (ap (λ j. occurs w (argument 1 gs j)) e ∙ no_zero w))
      low (suc d) e = omega arith

      high : (d : ℕ) → y - (n + k) ≡ d → y ≤ n + k
      high zero e = omega arith
      high (suc d) e = absurd (clash (occurs w (argument 1 gs (y - n))) o (ap (occurs w) (argument_high 1 gs (y - n) (omega arith))))

  -- an old variable stands in the places' instances alone
  old_only : (w y : ℕ) → w < next → occurs w (entered n next gs y) ≡ occurs w (argument 1 gs (y - n))
  old_only w y h = go (decide (has (own n) y))
    where
      go : (has (own n) y ≡ true) ⊎ (has (own n) y ≡ false) → occurs w (entered n next gs y) ≡ occurs w (argument 1 gs (y - n))
      go (inl k) =
          let r = own-range n y k in
          let z : y - n ≡ 0 = omega (arith, r.1) in
          ap (occurs w) (own_at y k) ∙ refuted (nat_eq w (y + next)) (λ e. let q : w ≡ y + next = same_var w (y + next) e in absurd (omega (arith, r.0)))
          ∙ sym (ap (λ j. occurs w (argument 1 gs j)) z ∙ no_zero w)
      go (inr k) = ap (occurs w) (place_at y k)

  entry_member : (sh : Share) (w : ℕ) → w < next → Member sh (λ j. occurs w (argument 1 gs j))
      → Member (record { sets = with_own n (sets_of (map (beside n k) sh.sets)); any = beside n k sh.any }) (λ y. occurs w (entered n next gs y))
  entry_member sh w lt (inl h) =
      inl (with_own-kept (λ s. Is s (λ y. occurs w (entered n next gs y))) n (sets_of (map (beside n k) sh.sets))
      (In-sets_of (λ s. Is s (λ y. occurs w (entered n next gs y))) (map (beside n k) sh.sets)
      (In-map (λ s. Is s (λ j. occurs w (argument 1 gs j))) (λ s. Is s (λ y. occurs w (entered n next gs y))) (beside n k) sh.sets shifted h)))
    where
      shifted : (s : ℕ) → Is s (λ j. occurs w (argument 1 gs j)) → Is (beside n k s) (λ y. occurs w (entered n next gs y))
      shifted s i y =
          same_bool (has (beside n k s) y) (occurs w (argument 1 gs (y - n)))
          (λ h. sym (i (y - n)) ∙ (beside-back n k s y h).2)
          (λ o. let r = in_places w y o in beside-forth n k s y r.0 r.1 (i (y - n) ∙ o))
          ∙ sym (old_only w y lt)
  entry_member sh w lt (inr h) = inr (λ y o. let p = sym (old_only w y lt) ∙ o in let r = in_places w y p in beside-forth n k sh.any y r.0 r.1 (h (y - n) p))

  own_member : (sh : Share) (x : ℕ) → has (own n) x ≡ true
      → Member (record { sets = with_own n (sets_of (map (beside n k) sh.sets)); any = beside n k sh.any }) (λ y. occurs (x + next) (entered n next gs y))
  own_member sh x h =
      inl (with_own-own (λ s. Is s (λ y. occurs (x + next) (entered n next gs y))) n x (sets_of (map (beside n k) sh.sets)) h
      (λ y. has-just x y ∙ go y (decide (has (own n) y))))
    where
      go : (y : ℕ) → (has (own n) y ≡ true) ⊎ (has (own n) y ≡ false) → nat_eq y x ≡ occurs (x + next) (entered n next gs y)
      go y (inl k) =
          same_bool (nat_eq y x) (nat_eq (x + next) (y + next))
          (λ e. ap (λ z. nat_eq (x + next) (z + next)) (same_var y x e) ∙ same_test (x + next))
          (λ e. let q : x + next ≡ y + next = same_var (x + next) (y + next) e in let p : y ≡ x = omega arith in ap (λ z. nat_eq z x) p ∙ same_test x)
          ∙ sym (ap (occurs (x + next)) (own_at y k))
      go y (inr k) =
          refuted (nat_eq y x) (λ e. clash (has (own n) x) h (ap (has (own n)) (sym (same_var y x e)) ∙ k))
          ∙ sym (ap (occurs (x + next)) (place_at y k) ∙ refuted (occurs (x + next) (argument 1 gs (y - n))) (λ o. let q = old (x + next) (y - n) o in absurd (omega arith)))

  beside_own-covers : (s : State) → Covers s (argument 1 gs) → Covers (beside_own n k s) (entered n next gs)
  beside_own-covers Unreachable c = absurd c
  beside_own-covers (Reachable sh fr) c = (
    λ w x o. Member-norm (record { sets = with_own n (sets_of (map (beside n k) sh.sets)); any = beside n k sh.any }) (λ y. occurs w (entered n next gs y)) (share w x o (decide (has (own n) x))),
    λ y h. free y (both_left (union (own n) (beside n k fr)) (nonground (norm (record { sets = with_own n (sets_of (map (beside n k) sh.sets)); any = beside n k sh.any }))) y h),
  )
    where
      share : (w x : ℕ) → occurs w (entered n next gs x) ≡ true → (has (own n) x ≡ true) ⊎ (has (own n) x ≡ false)
          → Member (record { sets = with_own n (sets_of (map (beside n k) sh.sets)); any = beside n k sh.any }) (λ y. occurs w (entered n next gs y))
      share w x o (inl i) =
          let e : w ≡ x + next = same_var w (x + next) (sym (ap (occurs w) (own_at x i)) ∙ o) in
          subst (λ z. Member (record { sets = with_own n (sets_of (map (beside n k) sh.sets)); any = beside n k sh.any }) (λ y. occurs z (entered n next gs y))) (sym e) (own_member sh x i)
      share w x o (inr i) =
          let p : occurs w (argument 1 gs (x - n)) ≡ true = sym (ap (occurs w) (place_at x i)) ∙ o in
          entry_member sh w (old w (x - n) p) (c.0 w (x - n) p)

      free : CoversFree (union (own n) (beside n k fr)) (entered n next gs)
      free y h = go (decide (has (own n) y))
        where
          go : (has (own n) y ≡ true) ⊎ (has (own n) y ≡ false) → IsVar (entered n next gs y)
          go (inl i) = (y + next, own_at y i)
          go (inr i) =
              subst IsVar (sym (place_at y i)) (elim (or_cases (has (own n) y) (has (beside n k fr) y) (sym (has-union (own n) (beside n k fr) y) ∙ h))
              [ inl j ↦ absurd (clash (has (own n) y) j i) | inr j ↦ c.1 (y - n) (beside-back n k fr y j).2 ])

-- ---- the head's equations

abbrev pub Along : (ℕ → Tree) → ℕ → Trees → Type 0
Along f i none = Unit {0}
Along f i (more t ts) = (f i ≡ t) × Along f (suc i) ts

abbrev pub SameLength : Trees → Trees → Type 0
SameLength none none = Unit {0}
SameLength none (more h hs) = ⊥
SameLength (more t ts) none = ⊥
SameLength (more t ts) (more h hs) = SameLength ts hs

heads-back : (f k : ℕ → Tree) (i : ℕ) (ts hs : Trees) → Along f i ts → instance_all k ts ≡ instance_all k (instance_all f hs) → Unify_all f k (head_equations i hs)
heads-back f k i ts none a e = tt
heads-back f k i none (more h hs) a e = absurd (cc)
heads-back f k i (more t ts) (more h hs) a e =
    let p : instance k t ≡ instance k (instance f h) = cc in
    let q : instance_all k ts ≡ instance_all k (instance_all f hs) = cc in
    (ap (instance k) a.0 ∙ p, heads-back f k (suc i) ts hs a.1 q)

heads-forth : (f k : ℕ → Tree) (i : ℕ) (ts hs : Trees) → SameLength ts hs → Along f i ts → Unify_all f k (head_equations i hs) → instance_all k ts ≡ instance_all k (instance_all f hs)
heads-forth f k i none none l a h = refl
heads-forth f k i none (more g hs) l a h = absurd l
heads-forth f k i (more t ts) none l a h = absurd l
heads-forth f k i (more t ts) (more g hs) l a h = ap₂ more (ap (instance k) (sym a.0) ∙ h.0) (heads-forth f k (suc i) ts hs l a.1 h.1)

same-length : (k f : ℕ → Tree) (ts hs : Trees) → instance_all k ts ≡ instance_all k (instance_all f hs) → SameLength ts hs
same-length k f none none e = tt
same-length k f none (more h hs) e = absurd (cc)
same-length k f (more t ts) none e = absurd (cc)
same-length k f (more t ts) (more h hs) e = let q : instance_all k ts ≡ instance_all k (instance_all f hs) = cc in same-length k f ts hs q

along : (n next : ℕ) (gs : Trees) (i e : ℕ) (ts : Trees) → e ≡ n + i → 0 < i → ((j : ℕ) → i ≤ j → argument 1 gs j ≡ argument i ts j) → Along (entered n next gs) e ts
along n next gs i e none q l h = tt
along n next gs i e (more t ts) q l h = (here, along n next gs (suc i) (suc e) ts (omega arith) (omega arith) (λ j k. h j (omega arith) ∙ skip j k))
  where
    out : has (own n) e ≡ false
    out = refuted (has (own n) e) (λ k. let r = own-range n e k in absurd (omega (arith, r.1)))

    here : entered n next gs e ≡ t
    here =
        let d : e - n ≡ i = omega arith in
        ap (λ b. cond b (var (e + next)) (argument 1 gs (e - n))) out ∙ ap (argument 1 gs) d ∙ h i (omega arith) ∙ ap (λ b. cond b t (argument (suc i) ts i)) (same_test i)

    skip : (j : ℕ) → suc i ≤ j → argument i (more t ts) j ≡ argument (suc i) ts j
    skip j k = ap (λ b. cond b t (argument (suc i) ts j)) (refuted (nat_eq j i) (λ x. let y : j ≡ i = same_var j i x in absurd (omega arith)))

same-count : (ts hs : Trees) → SameLength ts hs → count_trees ts ≡ count_trees hs
same-count none none l = refl
same-count none (more h hs) l = absurd l
same-count (more t ts) none l = absurd l
same-count (more t ts) (more h hs) l = ap (λ m. m + 1) (same-count ts hs l)

-- a call and a head of one name: its arguments are as many
pub enter_arguments-covers : (n next p : ℕ) (gs hs : Trees) (pattern : State) (u : ℕ → Tree)
    → ((w j : ℕ) → occurs w (argument 1 gs j) ≡ true → w < next)
    → ((x : ℕ) → occurs_all x hs ≡ true → has (own n) x ≡ true)
    → Covers pattern (argument 1 gs)
    → MostGeneral (node p gs) (instance (λ x. var (x + next)) (node p hs)) u
    → Covers (project (after_all (beside_own n (count_trees hs) pattern) (head_equations (suc n) hs)) (own n)) (own_after n next u)
enter_arguments-covers n next p gs hs pattern u old mine c m =
    Covers-same (project (after_all (beside_own n (count_trees hs) pattern) (head_equations (suc n) hs)) (own n)) (only (own n) (λ x. instance u (entered n next gs x))) (own_after n next u) final
    (project-covers (after_all (beside_own n (count_trees hs) pattern) (head_equations (suc n) hs)) (own n) (λ x. instance u (entered n next gs x))
    (after_all-covers (head_equations (suc n) hs) (beside_own n (count_trees hs) pattern) (entered n next gs) u
    (beside_own-covers n next (count_trees hs) gs (same-count gs hs lengths) old pattern c) (solves, general)))
  where
    fresh_at : (y : ℕ) → has (own n) y ≡ true → entered n next gs y ≡ var (y + next)
    fresh_at y h = ap (λ b. cond b (var (y + next)) (argument 1 gs (y - n))) h

    heads : instance_all (entered n next gs) hs ≡ instance_all (λ x. var (x + next)) hs
    heads = instance_all_agree (entered n next gs) (λ x. var (x + next)) hs (λ x o. fresh_at x (mine x o))

    places_along : Along (entered n next gs) (suc n) gs
    places_along = along n next gs 1 (suc n) gs (omega arith) (omega arith) (λ j k. refl)

    uni_args : instance_all u gs ≡ instance_all u (instance_all (entered n next gs) hs)
    uni_args = let e : node p (instance_all u gs) ≡ node p (instance_all u (instance_all (λ x. var (x + next)) hs)) = m.0 in let q : instance_all u gs ≡ instance_all u (instance_all (λ x. var (x + next)) hs) = cc in q ∙ ap (instance_all u) (sym heads)

    lengths : SameLength gs hs
    lengths = same-length u (entered n next gs) gs hs uni_args

    solves : Unify_all (entered n next gs) u (head_equations (suc n) hs)
    solves = heads-back (entered n next gs) u (suc n) gs hs places_along uni_args

    general : (k : ℕ → Tree) → Unify_all (entered n next gs) k (head_equations (suc n) hs) → (x : ℕ) → instance k (u x) ≡ k x
    general k h = m.1 k (ap (node p) (heads-forth (entered n next gs) k (suc n) gs hs lengths places_along h ∙ ap (instance_all k) heads))

    final : (x : ℕ) → only (own n) (λ x. instance u (entered n next gs x)) x ≡ own_after n next u x
    final x = go (has (own n) x) refl
      where
        go : (b : Bool) → has (own n) x ≡ b → cond b (instance u (entered n next gs x)) (atom 0) ≡ cond b (u (x + next)) (atom 0)
        go true e = ap (instance u) (fresh_at x e)
        go false e = refl

mutual
  -- the variables of a term that is numbered up to n are among them
  pub numbered-own : (n : ℕ) (t : Tree) → IsTrue (numbered n t) → (x : ℕ) → occurs x t ≡ true → has (own n) x ≡ true
  numbered-own n (var y) h x o =
      let e : x ≡ y = same_var x y o in
      let r = and_both (nat_le 1 y) (nat_le y n) h in
      ap (has (own n)) e ∙ own-has n y (leb-true 1 y r.0) (leb-true y n r.1)
  numbered-own n (int z) h x o = absurd (false≢true o)
  numbered-own n (atom a) h x o = absurd (false≢true o)
  numbered-own n (node a ts) h x o = numbered-own_all n ts h x o

  pub numbered-own_all : (n : ℕ) (ts : Trees) → IsTrue (numbered_all n ts) → (x : ℕ) → occurs_all x ts ≡ true → has (own n) x ≡ true
  numbered-own_all n none h x o = absurd (false≢true o)
  numbered-own_all n (more t ts) h x o =
      let r = and_both (numbered n t) (numbered_all n ts) h in
      elim (or_cases (occurs x t) (occurs_all x ts) o) [ inl i ↦ numbered-own n t r.0 x i | inr i ↦ numbered-own_all n ts r.1 x i ]

-- where both are atoms
enter_atom-covers : (n next a b : ℕ) (pattern : State) (u : ℕ → Tree) → Covers pattern (argument 1 none) → MostGeneral (atom a) (atom b) u
    → Covers (project (beside_own n 0 pattern) (own n)) (own_after n next u)
enter_atom-covers n next a b pattern u c m = enter_arguments-covers n next a none none pattern u (λ w j o. absurd (false≢true o)) (λ x o. absurd (false≢true o)) c (refl, λ f e x. m.1 f m.0 x)

pub enter-covers : (n next : ℕ) (goal head : Tree) (pattern : State) (u : ℕ → Tree) → IsTrue (callable goal) → IsTrue (callable head) → IsTrue (numbered n head)
    → ((w : ℕ) → occurs w goal ≡ true → w < next) → Covers pattern (argument 1 (arguments goal))
    → MostGeneral goal (instance (λ x. var (x + next)) head) u → Covers (enter n head pattern) (own_after n next u)
enter-covers n next (var x) head pattern u cg ch nh old c m = absurd (false≢true cg)
enter-covers n next (int z) head pattern u cg ch nh old c m = absurd (false≢true cg)
enter-covers n next goal (var y) pattern u cg ch nh old c m = absurd (false≢true ch)
enter-covers n next goal (int z) pattern u cg ch nh old c m = absurd (false≢true ch)
enter-covers n next (atom a) (atom b) pattern u cg ch nh old c m = enter_atom-covers n next a b pattern u c m
enter-covers n next (atom a) (node b hs) pattern u cg ch nh old c m = absurd (let e : atom a ≡ node b (instance_all u (instance_all (λ x. var (x + next)) hs)) = m.0 in cc)
enter-covers n next (node a gs) (atom b) pattern u cg ch nh old c m = absurd (let e : node a (instance_all u gs) ≡ atom b = m.0 in cc)
enter-covers n next (node a gs) (node b hs) pattern u cg ch nh old c m =
    subst (λ k. Covers (project (after_all (beside_own n (count_trees hs) pattern) (head_equations k hs)) (own n)) (own_after n next u)) one_more
    (enter_arguments-covers n next a gs hs pattern u (λ w j o. old w (of_argument w 1 gs j o)) (numbered-own_all n hs nh) c
    (subst (λ z. MostGeneral (node a gs) (node z (instance_all (λ x. var (x + next)) hs)) u) (sym name) m))
  where
    one_more : suc n ≡ n + 1
    one_more = omega arith

    name : a ≡ b
    name = let e : node a (instance_all u gs) ≡ node b (instance_all u (instance_all (λ x. var (x + next)) hs)) = m.0 in cc
