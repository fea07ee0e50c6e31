-- The list of the full condition has exactly its checks.
use Rattle.std.proofs.Common.{◌≡◌, ℕ, zero, suc, ◌<◌, ◌≤◌, ◌⊎◌, inl, inr, Bool, true, false, not, ◌||◌, ◌&&◌, nat_eq, nat_lt, nat_le, if◌then◌else◌, IsTrue, List, [], ◌∷◌, ◌++◌, map, refl, ap, sym, ◌∙◌, subst, arith}
use Rattle.std.specs.List.{filter, flat_map}
use Rattle.std.proofs.lemmas.Bool.{false≢true, and_parts, leb-true, ltb-true, lt-ltb, eqb-false, not-true, or_right}
use Rattle.ap_term.specs.declared.clauses.Check.{Check}
use Rattle.ap_term.specs.declared.clauses.Check.TheVariants.{Ground, Indep}
use Rattle.ap_term.specs.Tree.{Tree, Trees, var, int, atom, node, none, more}
use Rattle.ap_term.specs.Vars.{occurs, occurs_all}
use Rattle.ap_term.specs.WellFormed.{in_range, numbered, numbered_all}
use Rattle.ap_term.specs.Independence.{shared, of_two_goals, IsInFullCondition, of_shared, of_others}
use Rattle.ap_term.proofs.Solutions.{same_var}
use Rattle.ap_absunify.proofs.Vars.{or_cases, and_both, and_made}
use Rattle.ap_conditions.specs.FullCondition.{numbers, is_pair, grounds, indeps_of, full_condition}
use Rattle.ap_conditions.specs.Laws.{IsIn}

-- ---- members of lists

in_left : {A : Type 0} (x : A) (xs ys : List A) → IsIn x xs → IsIn x (xs ++ ys)
in_left x [] ys h = absurd h
in_left x (y ∷ xs) ys (inl e) = inl e
in_left x (y ∷ xs) ys (inr h) = inr (in_left x xs ys h)

in_right : {A : Type 0} (x : A) (xs ys : List A) → IsIn x ys → IsIn x (xs ++ ys)
in_right x [] ys h = h
in_right x (y ∷ xs) ys h = inr (in_right x xs ys h)

in_both : {A : Type 0} (x : A) (xs ys : List A) → IsIn x (xs ++ ys) → IsIn x xs ⊎ IsIn x ys
in_both x [] ys h = inr h
in_both x (y ∷ xs) ys (inl e) = inl (inl e)
in_both x (y ∷ xs) ys (inr h) = elim (in_both x xs ys h) [ inl k ↦ inl (inr k) | inr k ↦ inr k ]

-- x of those that pass is picked, and what is picked comes from such an x
picked : {B : Type 0} (g : ℕ → B) (p : ℕ → Bool) (xs : List ℕ) (x : ℕ) → IsIn x xs → p x ≡ true → IsIn (g x) (map g (filter p xs))
picked g p [] x h t = absurd h
picked {B = B} g p (y ∷ xs) x (inl e) t = subst (λ b. IsIn (g x) (map g (if b then y ∷ filter p xs else filter p xs))) (sym (ap p (sym e) ∙ t)) (inl (ap g e))
picked {B = B} g p (y ∷ xs) x (inr h) t = go (p y) (picked g p xs x h t)
  where
    go : (b : Bool) → IsIn (g x) (map g (filter p xs)) → IsIn (g x) (map g (if b then y ∷ filter p xs else filter p xs))
    go true k = inr k
    go false k = k

of_picked : {B : Type 0} (g : ℕ → B) (p : ℕ → Bool) (xs : List ℕ) (b : B) → IsIn b (map g (filter p xs)) → (x : ℕ) × (p x ≡ true) × (b ≡ g x)
of_picked g p [] b h = absurd h
of_picked {B = B} g p (y ∷ xs) b h = go (p y) refl h (λ k. of_picked g p xs b k)
  where
    go : (t : Bool) → p y ≡ t → IsIn b (map g (if t then y ∷ filter p xs else filter p xs)) → (IsIn b (map g (filter p xs)) → (x : ℕ) × (p x ≡ true) × (b ≡ g x))
        → (x : ℕ) × (p x ≡ true) × (b ≡ g x)
    go true e (inl k) ih = (y, e, k)
    go true e (inr k) ih = ih k
    go false e k ih = ih k

joined : {B : Type 0} (f : ℕ → List B) (xs : List ℕ) (x : ℕ) (b : B) → IsIn x xs → IsIn b (f x) → IsIn b (flat_map f xs)
joined f [] x b h k = absurd h
joined f (y ∷ xs) x b (inl e) k = in_left b (f y) (flat_map f xs) (subst (λ z. IsIn b (f z)) e k)
joined f (y ∷ xs) x b (inr h) k = in_right b (f y) (flat_map f xs) (joined f xs x b h k)

of_joined : {B : Type 0} (f : ℕ → List B) (xs : List ℕ) (b : B) → IsIn b (flat_map f xs) → (x : ℕ) × IsIn b (f x)
of_joined f [] b h = absurd h
of_joined f (y ∷ xs) b h = elim (in_both b (f y) (flat_map f xs) h) [ inl k ↦ (y, k) | inr k ↦ of_joined f xs b k ]

-- ---- numbers

smaller : (x n : ℕ) → x ≤ suc n → (x ≡ suc n → ⊥) → x ≤ n
smaller x n b ne = omega (arith, ne)

in_numbers : (n x : ℕ) → 0 < x → x ≤ n → IsIn x (numbers n)
unfolding numbers
in_numbers zero x a b = absurd (omega arith)
in_numbers (suc n) x a b = go (nat_eq x (suc n)) refl (λ k. in_numbers n x a k)
  where
    go : (t : Bool) → nat_eq x (suc n) ≡ t → (x ≤ n → IsIn x (numbers n)) → IsIn x (numbers n ++ suc n ∷ [])
    go true e ih = in_right x (numbers n) (suc n ∷ []) (inl (same_var x (suc n) e))
    go false e ih = in_left x (numbers n) (suc n ∷ []) (ih (smaller x n b (eqb-false x (suc n) e)))

mutual
  pub numbered-in : (n : ℕ) (t : Tree) → IsTrue (numbered n t) → (x : ℕ) → occurs x t ≡ true → in_range n x ≡ true
  numbered-in n (var y) h x o = ap (in_range n) (same_var x y o) ∙ h
  numbered-in n (int z) h x o = absurd (false≢true o)
  numbered-in n (atom a) h x o = absurd (false≢true o)
  numbered-in n (node a ts) h x o = numbered_all-in n ts h x o

  pub numbered_all-in : (n : ℕ) (ts : Trees) → IsTrue (numbered_all n ts) → (x : ℕ) → occurs_all x ts ≡ true → in_range n x ≡ true
  numbered_all-in n none h x o = absurd (false≢true o)
  numbered_all-in n (more t ts) h x o =
      let r = and_parts (numbered n t) (numbered_all n ts) h in
      elim (or_cases (occurs x t) (occurs_all x ts) o) [ inl i ↦ numbered-in n t r.0 x i | inr i ↦ numbered_all-in n ts r.1 x i ]

pub shared_occurs : (x : ℕ) (ts : Trees) → shared x ts ≡ true → occurs_all x ts ≡ true
shared_occurs x none h = absurd (false≢true h)
shared_occurs x (more t ts) h =
    elim (or_cases (occurs x t && occurs_all x ts) (shared x ts) h) [
      | inl k ↦ or_right (occurs x t) _ (and_both (occurs x t) (occurs_all x ts) k).1
      | inr k ↦ or_right (occurs x t) _ (shared_occurs x ts k)
    ]

pub two_occur : (x y : ℕ) (ts : Trees) → of_two_goals x y ts ≡ true → (occurs_all x ts ≡ true) × (occurs_all y ts ≡ true)
two_occur x y none h = absurd (false≢true h)
two_occur x y (more t ts) h =
    elim (or_cases (occurs x t && occurs_all y ts) ((occurs y t && occurs_all x ts) || of_two_goals x y ts) h) [
      | inl k ↦ (let r = and_both (occurs x t) (occurs_all y ts) k in (ap (λ b. b || occurs_all x ts) r.0, or_right (occurs y t) _ r.1))
      | inr k ↦ elim (or_cases (occurs y t && occurs_all x ts) (of_two_goals x y ts) k) [
        | inl l ↦ (let r = and_both (occurs y t) (occurs_all x ts) l in (or_right (occurs x t) _ r.1, ap (λ b. b || occurs_all y ts) r.0))
        | inr l ↦ (let r = two_occur x y ts l in (or_right (occurs x t) _ r.0, or_right (occurs y t) _ r.1))
      ]
    ]

one_of_numbers : (ts : Trees) → IsTrue (numbered_all 255 ts) → (x : ℕ) → occurs_all x ts ≡ true → IsIn x (numbers 255)
one_of_numbers ts w x o =
    let r = and_parts (nat_le 1 x) (nat_le x 255) (numbered_all-in 255 ts w x o) in
    let a : 1 ≤ x = leb-true 1 x r.0 in
    in_numbers 255 x (omega arith) (leb-true x 255 r.1)

-- ---- the list

pub listed-full : (goals : Trees) (c : Check) → IsIn c (full_condition goals) → IsInFullCondition goals c
listed-full goals c h =
    elim (in_both c (grounds goals) (flat_map (indeps_of goals) (numbers 255)) h) [
      | inl k ↦ (let r = of_picked Ground (λ x. shared x goals) (numbers 255) c k in subst (IsInFullCondition goals) (sym r.2) (of_shared r.0 r.1))
      | inr k ↦
          (let q = of_joined (indeps_of goals) (numbers 255) c k in
          let r = of_picked (Indep q.0) (is_pair goals q.0) (numbers 255) c q.1 in
          let a = and_both (nat_lt q.0 r.0) (not (shared q.0 goals) && (not (shared r.0 goals) && of_two_goals q.0 r.0 goals)) r.1 in
          let b = and_both (not (shared q.0 goals)) (not (shared r.0 goals) && of_two_goals q.0 r.0 goals) a.1 in
          let d = and_both (not (shared r.0 goals)) (of_two_goals q.0 r.0 goals) b.1 in
          subst (IsInFullCondition goals) (sym r.2) (of_others q.0 r.0 (ltb-true q.0 r.0 a.0) (not-true (shared q.0 goals) b.0) (not-true (shared r.0 goals) d.0) d.1))
    ]

pub full-listed : (goals : Trees) (c : Check) → IsTrue (numbered_all 255 goals) → IsInFullCondition goals c → IsIn c (full_condition goals)
full-listed goals c w (of_shared x h) =
    in_left (Ground x) (grounds goals) (flat_map (indeps_of goals) (numbers 255))
    (picked Ground (λ z. shared z goals) (numbers 255) x (one_of_numbers goals w x (shared_occurs x goals h)) h)
full-listed goals c w (of_others x y l sx sy o) =
    let r = two_occur x y goals o in
    in_right (Indep x y) (grounds goals) (flat_map (indeps_of goals) (numbers 255))
    (joined (indeps_of goals) (numbers 255) x (Indep x y) (one_of_numbers goals w x r.0)
    (picked (Indep x) (is_pair goals x) (numbers 255) y (one_of_numbers goals w y r.1)
    (and_made (nat_lt x y) (not (shared x goals) && (not (shared y goals) && of_two_goals x y goals)) (lt-ltb x y l)
    (and_made (not (shared x goals)) (not (shared y goals) && of_two_goals x y goals) (ap not sx) (and_made (not (shared y goals)) (of_two_goals x y goals) (ap not sy) o)))))
