-- The pattern of an entry covers each query that is as its marks say.
use Rattle.std.proofs.Common.{◌≡◌, ◌≢◌, ℕ, zero, suc, ◌+◌, ◌-◌, ◌<◌, ◌≤◌, ◌⊎◌, inl, inr, Bool, true, false, nat_eq, cond, List, [], ◌∷◌, length, Some, refl, ap, sym, ◌∙◌, subst, arith}
use Rattle.std.proofs.lemmas.Bool.{or_left, or_right}
use Rattle.ap_term.specs.Tree.{Trees, var}
use Rattle.ap_term.specs.Vars.{occurs}
use Rattle.ap_sharing.specs.VarSet.{has, empty, just}
use Rattle.ap_sharing.specs.Sets.{In, Is, sets_of}
use Rattle.ap_sharing.specs.Share.{Member, nonground, norm}
use Rattle.ap_sharing.proofs.Elements.{same_test, clash, has-empty, has-union, has-just, both_left}
use Rattle.ap_sharing.proofs.Covers.{Member-norm}
use Rattle.ap_term.proofs.Solutions.{same_var}
use Rattle.ap_absunify.proofs.Vars.{or_cases, refuted}
use Rattle.ap_absunify.specs.State.{Covers}
use Rattle.ap_patterns.specs.declared.entries.Mark.{Mark}
use Rattle.ap_patterns.specs.declared.entries.Mark.TheVariants.{Ground, Free, Any}
use Rattle.ap_patterns.specs.Places.{argument}
use Rattle.ap_patterns.specs.Entry.{mark_at, AsMarked, free_sets, free_marks, any_marks, marked_pattern}
use Rattle.ap_patterns.proofs.CallPatterns.{In-sets_of}
use Rattle.ap_patterns.proofs.Entering.{argument_low, argument_high}

later : (i j : ℕ) → suc i ≤ j → nat_eq j i ≡ false
later i j l = refuted (nat_eq j i) (λ e. let q : j ≡ i = same_var j i e in absurd (omega arith))

skip : (i j : ℕ) (m : Mark) (ms : List Mark) → suc i ≤ j → mark_at i (m ∷ ms) j ≡ mark_at (suc i) ms j
skip i j m ms l = ap (λ b. cond b (Some m) (mark_at (suc i) ms j)) (later i j l)

-- what is free by the marks is marked so
free-marked : (i : ℕ) (ms : List Mark) (j : ℕ) → has (free_marks i ms) j ≡ true → (i ≤ j) × (mark_at i ms j ≡ Some Free)
free-marked i [] j h = absurd (clash (has empty j) h (has-empty j))
free-marked i (Ground ∷ ms) j h = let r = free-marked (suc i) ms j h in (omega (arith, r.0), skip i j Ground ms r.0 ∙ r.1)
free-marked i (Any ∷ ms) j h = let r = free-marked (suc i) ms j h in (omega (arith, r.0), skip i j Any ms r.0 ∙ r.1)
free-marked i (Free ∷ ms) j h = go (or_cases (has (just i) j) (has (free_marks (suc i) ms) j) (sym (has-union (just i) (free_marks (suc i) ms) j) ∙ h)) (free-marked (suc i) ms j)
  where
    go : (has (just i) j ≡ true) ⊎ (has (free_marks (suc i) ms) j ≡ true) → (has (free_marks (suc i) ms) j ≡ true → (suc i ≤ j) × (mark_at (suc i) ms j ≡ Some Free))
        → (i ≤ j) × (mark_at i (Free ∷ ms) j ≡ Some Free)
    go (inl k) ih =
        let e : nat_eq j i ≡ true = sym (has-just i j) ∙ k in
        let q : j ≡ i = same_var j i e in
        (omega arith, ap (λ b. cond b (Some Free) (mark_at (suc i) ms j)) e)
    go (inr k) ih = let r = ih k in (omega (arith, r.0), skip i j Free ms r.0 ∙ r.1)

-- a place that is marked as free stands alone
free-set : (P : ℕ → Type 0) (i : ℕ) (ms : List Mark) (j : ℕ) → mark_at i ms j ≡ Some Free → P (just j) → In P (free_sets i ms)
free-set P i [] j h p = absurd (cc)
free-set P i (m ∷ ms) j h p = go (nat_eq j i) refl h (λ k. free-set P (suc i) ms j k p)
  where
    rest : (m : Mark) → In P (free_sets (suc i) ms) → In P (free_sets i (m ∷ ms))
    rest Ground k = k
    rest Any k = k
    rest Free k = inr k

    here : (m : Mark) → m ≡ Free → P (just i) → In P (free_sets i (m ∷ ms))
    here Free e q = inl q
    here Ground e q = absurd (cc)
    here Any e q = absurd (cc)

    go : (b : Bool) → nat_eq j i ≡ b → cond b (Some m) (mark_at (suc i) ms j) ≡ Some Free → (mark_at (suc i) ms j ≡ Some Free → In P (free_sets (suc i) ms)) → In P (free_sets i (m ∷ ms))
    go true e k ih = let q : m ≡ Free = cc in here m q (subst (λ z. P (just z)) (same_var j i e) p)
    go false e k ih = rest m (ih k)

-- a place that is marked as anything is in `any`
any-marked : (i : ℕ) (ms : List Mark) (j : ℕ) → mark_at i ms j ≡ Some Any → has (any_marks i ms) j ≡ true
any-marked i [] j h = absurd (cc)
any-marked i (m ∷ ms) j h = go (nat_eq j i) refl h (any-marked (suc i) ms j)
  where
    rest : (m : Mark) → has (any_marks (suc i) ms) j ≡ true → has (any_marks i (m ∷ ms)) j ≡ true
    rest Ground k = k
    rest Free k = k
    rest Any k = has-union (just i) (any_marks (suc i) ms) j ∙ or_right (has (just i) j) (has (any_marks (suc i) ms) j) k

    here : (m : Mark) → m ≡ Any → nat_eq j i ≡ true → has (any_marks i (m ∷ ms)) j ≡ true
    here Any e q = has-union (just i) (any_marks (suc i) ms) j ∙ or_left (has (just i) j) (has (any_marks (suc i) ms) j) (has-just i j ∙ q)
    here Ground e q = absurd (cc)
    here Free e q = absurd (cc)

    go : (b : Bool) → nat_eq j i ≡ b → cond b (Some m) (mark_at (suc i) ms j) ≡ Some Any → (mark_at (suc i) ms j ≡ Some Any → has (any_marks (suc i) ms) j ≡ true) → has (any_marks i (m ∷ ms)) j ≡ true
    go true e k ih = let q : m ≡ Any = cc in here m q e
    go false e k ih = rest m (ih k)

-- each place has a mark
a_mark : (i : ℕ) (ms : List Mark) (j : ℕ) → i ≤ j → j < i + length ms → (m : Mark) × (mark_at i ms j ≡ Some m)
a_mark i [] j l h = absurd (omega arith)
a_mark i (m ∷ ms) j l h = go (nat_eq j i) refl (a_mark (suc i) ms j)
  where
    go : (b : Bool) → nat_eq j i ≡ b → (suc i ≤ j → j < suc i + length ms → (n : Mark) × (mark_at (suc i) ms j ≡ Some n)) → (n : Mark) × (cond b (Some m) (mark_at (suc i) ms j) ≡ Some n)
    go true e ih = (m, refl)
    go false e ih = ih (above (j - i) refl) (omega arith)
      where
        above : (d : ℕ) → j - i ≡ d → suc i ≤ j
        above zero k = let q : j ≡ i = omega arith in absurd (clash (nat_eq j i) (ap (λ z. nat_eq z i) q ∙ same_test i) e)
        above (suc d) k = omega arith

module _ (marks : List Mark) (args : Trees) (as_marked : AsMarked marks args) where
  -- an argument that has a variable has a mark
  mark : (w j : ℕ) → occurs w (argument 1 args j) ≡ true → (m : Mark) × (mark_at 1 marks j ≡ Some m)
  mark w j o = a_mark 1 marks j (low j o) (high (j - length marks) refl)
    where
      low : (j : ℕ) → occurs w (argument 1 args j) ≡ true → 1 ≤ j
      low zero k = absurd (clash (occurs w (argument 1 args 0)) k (ap (occurs w) (argument_low 1 args 0 (omega arith))))
      low (suc j) k = omega arith

      high : (d : ℕ) → j - length marks ≡ d → j < 1 + length marks
      high zero e = omega arith
      high (suc d) e = let n = as_marked.as_many in absurd (clash (occurs w (argument 1 args j)) o (ap (occurs w) (argument_high 1 args j (omega arith))))

  -- a variable at a place that is marked as free stands there alone
  alone : (w j : ℕ) → occurs w (argument 1 args j) ≡ true → mark_at 1 marks j ≡ Some Free → (i : ℕ) → nat_eq i j ≡ occurs w (argument 1 args i)
  alone w j o h i = go (nat_eq i j) refl
    where
      v : (v : ℕ) × (argument 1 args j ≡ var v) × ((i : ℕ) → i ≢ j → occurs v (argument 1 args i) ≡ false)
      v = as_marked.free j h

      is : w ≡ v.0
      is = same_var w v.0 (sym (ap (occurs w) v.1) ∙ o)

      go : (b : Bool) → nat_eq i j ≡ b → b ≡ occurs w (argument 1 args i)
      go true e = sym (ap (λ z. occurs w (argument 1 args z)) (same_var i j e) ∙ o)
      go false e = sym (ap (λ z. occurs z (argument 1 args i)) is ∙ v.2 i (λ q. clash (nat_eq i j) (ap (λ z. nat_eq z j) q ∙ same_test j) e))

  in_any : (w j i : ℕ) → occurs w (argument 1 args j) ≡ true → mark_at 1 marks j ≡ Some Any → occurs w (argument 1 args i) ≡ true → has (any_marks 1 marks) i ≡ true
  in_any w j i o h k = go (mark w i k)
    where
      go : (m : Mark) × (mark_at 1 marks i ≡ Some m) → has (any_marks 1 marks) i ≡ true
      go (Ground, e) = absurd (clash (occurs w (argument 1 args i)) k (as_marked.ground i e w))
      go (Any, e) = any-marked 1 marks i e
      go (Free, e) = absurd (differ (same_var j i (alone w i k e j ∙ o)))
        where
          differ : j ≡ i → ⊥
          differ q = let f : mark_at 1 marks j ≡ Some Free = ap (mark_at 1 marks) q ∙ e in let d : Some Any ≡ Some Free = sym h ∙ f in cc

  member : (w j : ℕ) → occurs w (argument 1 args j) ≡ true → Member (record { sets = sets_of (free_sets 1 marks); any = any_marks 1 marks }) (λ i. occurs w (argument 1 args i))
  member w j o = go (mark w j o)
    where
      go : (m : Mark) × (mark_at 1 marks j ≡ Some m) → Member (record { sets = sets_of (free_sets 1 marks); any = any_marks 1 marks }) (λ i. occurs w (argument 1 args i))
      go (Ground, e) = absurd (clash (occurs w (argument 1 args j)) o (as_marked.ground j e w))
      go (Any, e) = inr (λ i k. in_any w j i o e k)
      go (Free, e) =
          inl (In-sets_of (λ s. Is s (λ i. occurs w (argument 1 args i))) (free_sets 1 marks)
          (free-set (λ s. Is s (λ i. occurs w (argument 1 args i))) 1 marks j e (λ i. has-just j i ∙ alone w j o e i)))

  pub marked-covers : Covers (marked_pattern marks) (argument 1 args)
  marked-covers = (
    λ w j o. Member-norm (record { sets = sets_of (free_sets 1 marks); any = any_marks 1 marks }) (λ i. occurs w (argument 1 args i)) (member w j o),
    λ j h. (let r = as_marked.free j (free-marked 1 marks j (both_left (free_marks 1 marks) (nonground (norm (record { sets = sets_of (free_sets 1 marks); any = any_marks 1 marks }))) j h)).1 in (r.0, r.1)),
  )
