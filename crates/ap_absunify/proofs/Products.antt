-- Where the unions of one set of each side are more than a Share holds, all sets come to `any`. They needn't be built
-- for that: each of their variables is one of a set of a side, and each of these is one of theirs.
use Rattle.std.proofs.Common.{◌≡◌, ℕ, ◌<◌, ◌⊎◌, inl, inr, Bool, true, false, not, ◌||◌, ◌&&◌, cond, if◌then◌else◌, Some, None, List, [], ◌∷◌, length, refl, ap, ap₂, sym, ◌∙◌, arith}
use Rattle.std.proofs.lemmas.Bool.{false≢true, or_left, or_right, or_cases, ltb-true, lt-ltb, false_from_ne_true}
use Rattle.std.specs.List.{filter}
use Rattle.ap_term.proofs.Facts.{same_bool}
use Rattle.ap_sharing.specs.VarSet.{has, empty, union, meets, within}
use Rattle.ap_sharing.specs.Sets.{In, join_sets, all_of, pairs, closure, too_many}
use Rattle.ap_sharing.specs.Share.{Share, IsNormal, met, limited, norm}
use Rattle.ap_sharing.proofs.Elements.{same_set, clash, has-empty, has-union, meets-at, meets-none, within-at}
use Rattle.ap_sharing.proofs.Lists.{Elem, listed-Elem, In-some, In-elem, In-join_left, In-join_right, In-join_cases, length-join, Elem-pairs, pairs-back}
use Rattle.ap_sharing.proofs.Closures.{In-closure, least}
use Rattle.ap_absunify.specs.AfterUnify.{meeting, side, is_wide, widened_by, unify_share}

-- ---- lists of sets

In-has_all : (x : ℕ) (ss : List ℕ) → In (λ s. has s x ≡ true) ss → has (all_of ss) x ≡ true
In-has_all x [] h = absurd h
In-has_all x (s ∷ ss) (inl h) = has-union s (all_of ss) x ∙ or_left (has s x) (has (all_of ss) x) h
In-has_all x (s ∷ ss) (inr h) = has-union s (all_of ss) x ∙ or_right (has s x) (has (all_of ss) x) (In-has_all x ss h)

has_all-In : (x : ℕ) (ss : List ℕ) → has (all_of ss) x ≡ true → In (λ s. has s x ≡ true) ss
has_all-In x [] h = absurd (clash (has empty x) h (has-empty x))
has_all-In x (s ∷ ss) h =
    elim (or_cases (has s x) (has (all_of ss) x) (sym (has-union s (all_of ss) x) ∙ h)) [ inl k ↦ inl k | inr k ↦ inr (has_all-In x ss k) ]

Elem-filter : (p : ℕ → Bool) (a : ℕ) (ss : List ℕ) → Elem a (filter p ss) → (p a ≡ true) × Elem a ss
Elem-filter p a [] h = absurd h
Elem-filter p a (s ∷ ss) h = go (p s) refl h (Elem-filter p a ss)
  where
    go : (b : Bool) → p s ≡ b → Elem a (cond b (s ∷ filter p ss) (filter p ss)) → (Elem a (filter p ss) → (p a ≡ true) × Elem a ss) → (p a ≡ true) × Elem a (s ∷ ss)
    go true e (inl k) ih = (ap p k ∙ e, inl k)
    go true e (inr k) ih = let r = ih k in (r.0, inr r.1)
    go false e k ih = let r = ih k in (r.0, inr r.1)

filter_all : (p : ℕ → Bool) (ss : List ℕ) → ((s : ℕ) → Elem s ss → p s ≡ true) → filter p ss ≡ ss
filter_all p [] h = refl
filter_all p (s ∷ ss) h = go (p s) (h s (inl refl)) (filter_all p ss (λ r i. h r (inr i)))
  where
    go : (b : Bool) → b ≡ true → filter p ss ≡ ss → cond b (s ∷ filter p ss) (filter p ss) ≡ s ∷ ss
    go true e ih = ap (λ rs. s ∷ rs) ih
    go false e ih = absurd (false≢true e)

meets-more : (s t v : ℕ) → meets s v ≡ true → meets (union s t) v ≡ true
meets-more s t v h = go (meets (union s t) v) refl
  where
    go : (b : Bool) → meets (union s t) v ≡ b → b ≡ true
    go true e = refl
    go false e = absurd (clash (meets s v) h (meets-none s v (λ x i j.
        clash (meets (union s t) v) (meets-at (union s t) v x (has-union s t x ∙ or_left (has s x) (has t x) i) j) e)))

-- ---- one side

module _ (plain : Bool) (sh : Share) (a : ℕ) where
  side-has : (s : ℕ) → Elem s (meeting sh a) → Elem s (side plain (meeting sh a))
  side-has s h = go plain
    where
      go : (b : Bool) → Elem s (cond b (meeting sh a) (closure (meeting sh a)))
      go true = h
      go false = In-closure (λ r. s ≡ r) (meeting sh a) h

  -- each of its sets meets the side's variables and has only variables that are met
  side-meets : (s : ℕ) → Elem s (side plain (meeting sh a)) → (meets s a ≡ true) × ((x : ℕ) → has s x ≡ true → has (all_of (meeting sh a)) x ≡ true)
  side-meets s h = go plain h
    where
      Fits : ℕ → Type 0
      Fits r = (meets r a ≡ true) × ((x : ℕ) → has r x ≡ true → has (all_of (meeting sh a)) x ≡ true)

      one : (r : ℕ) → Elem r (meeting sh a) → (meets r a ≡ true) × ((x : ℕ) → has r x ≡ true → has (all_of (meeting sh a)) x ≡ true)
      one r i = ((Elem-filter (λ s. meets s a) r sh.sets i).0, λ x k. In-has_all x (meeting sh a) (In-elem (λ s. has s x ≡ true) (meeting sh a) r i k))

      go : (b : Bool) → Elem s (cond b (meeting sh a) (closure (meeting sh a))) → (meets s a ≡ true) × ((x : ℕ) → has s x ≡ true → has (all_of (meeting sh a)) x ≡ true)
      go true i = one s i
      go false i =
          least (λ r. (meets r a ≡ true) × ((x : ℕ) → has r x ≡ true → has (all_of (meeting sh a)) x ≡ true))
          (λ r t p q. (meets-more r t a p.0, λ x k. elim (or_cases (has r x) (has t x) (sym (has-union r t x) ∙ k)) [ inl j ↦ p.1 x j | inr j ↦ q.1 x j ]))
          (meeting sh a) one s i

-- ---- both sides' sets, A and B, whose variables are wa and wb, their unions P, and the other sets R

module _ (A B P R : List ℕ) (any wa wb : ℕ) (back : (s : ℕ) → Elem s P → (r : ℕ) × (t : ℕ) × Elem r A × Elem t B × (union r t ≡ s))
    (forth : (r t : ℕ) → Elem r A → Elem t B → Elem (union r t) P)
    (in_a : (x r : ℕ) → Elem r A → has r x ≡ true → has wa x ≡ true) (of_a : (x : ℕ) → has wa x ≡ true → In (λ s. has s x ≡ true) A)
    (in_b : (x r : ℕ) → Elem r B → has r x ≡ true → has wb x ≡ true) (of_b : (x : ℕ) → has wb x ≡ true → In (λ s. has s x ≡ true) B)
    (out : (s : ℕ) → Elem s P → within s any ≡ false) (rest : (s : ℕ) → Elem s R → within s any ≡ false) (many : too_many P ≡ true) where
  -- a list of too many has one
  some : (ss : List ℕ) → too_many ss ≡ true → (s : ℕ) × Elem s ss
  some [] h = absurd (false≢true h)
  some (s ∷ ss) h = (s, inl refl)

  a_pair : (s : ℕ) × (t : ℕ) × Elem s A × Elem t B
  a_pair = let r = some P many in let q = back r.0 r.1 in (q.0, q.1, q.2, q.3)

  outside : (s : ℕ) → Elem s (join_sets P R) → not (within s any) ≡ true
  outside s h = elim (In-join_cases (λ r. s ≡ r) P R h) [ inl k ↦ ap not (out s k) | inr k ↦ ap not (rest s k) ]

  into : (x s : ℕ) → Elem s P → has s x ≡ true → has (union (union wa wb) (all_of R)) x ≡ true
  into x s h k =
      let q = back s h in
      has-union (union wa wb) (all_of R) x
      ∙ or_left (has (union wa wb) x) (has (all_of R) x) (has-union wa wb x ∙ elim (or_cases (has q.0 x) (has q.1 x) (sym (has-union q.0 q.1 x) ∙ ap (λ z. has z x) q.4 ∙ k))
      [ inl j ↦ or_left (has wa x) (has wb x) (in_a x q.0 q.2 j) | inr j ↦ or_right (has wa x) (has wb x) (in_b x q.1 q.3 j) ])

  from_pairs : (x : ℕ) → (has wa x ≡ true) ⊎ (has wb x ≡ true) → In (λ s. has s x ≡ true) P
  from_pairs x (inl h) =
      let r = In-some (λ s. has s x ≡ true) A (of_a x h) in
      let q = a_pair in
      In-elem (λ s. has s x ≡ true) P (union r.0 q.1) (forth r.0 q.1 r.2 q.3) (has-union r.0 q.1 x ∙ or_left (has r.0 x) (has q.1 x) r.1)
  from_pairs x (inr h) =
      let r = In-some (λ s. has s x ≡ true) B (of_b x h) in
      let q = a_pair in
      In-elem (λ s. has s x ≡ true) P (union q.0 r.0) (forth q.0 r.0 q.2 r.2) (has-union q.0 r.0 x ∙ or_right (has q.0 x) (has r.0 x) r.1)

  -- the variables of all sets afterwards
  same_vars : all_of (join_sets P R) ≡ union (union wa wb) (all_of R)
  same_vars = same_set (all_of (join_sets P R)) (union (union wa wb) (all_of R)) (λ x. same_bool (has (all_of (join_sets P R)) x) (has (union (union wa wb) (all_of R)) x) (there x) (here x))
    where
      there : (x : ℕ) → has (all_of (join_sets P R)) x ≡ true → has (union (union wa wb) (all_of R)) x ≡ true
      there x h =
          elim (In-join_cases (λ s. has s x ≡ true) P R (has_all-In x (join_sets P R) h)) [
            | inl k ↦ (let r = In-some (λ s. has s x ≡ true) P k in into x r.0 r.2 r.1)
            | inr k ↦ has-union (union wa wb) (all_of R) x ∙ or_right (has (union wa wb) x) (has (all_of R) x) (In-has_all x R k)
          ]

      here : (x : ℕ) → has (union (union wa wb) (all_of R)) x ≡ true → has (all_of (join_sets P R)) x ≡ true
      here x h =
          In-has_all x (join_sets P R) (elim (or_cases (has (union wa wb) x) (has (all_of R) x) (sym (has-union (union wa wb) (all_of R) x) ∙ h)) [
            | inl k ↦ In-join_left (λ s. has s x ≡ true) P R (from_pairs x (or_cases (has wa x) (has wb x) (sym (has-union wa wb x) ∙ k)))
            | inr k ↦ In-join_right (λ s. has s x ≡ true) P R (has_all-In x R k)
          ])

  still_many : (ss : List ℕ) → ss ≡ join_sets P R → too_many ss ≡ true
  still_many ss e =
      let l : length ss ≡ length (join_sets P R) = ap length e in
      let m : 4096 < length P = ltb-true 4096 (length P) many in
      lt-ltb 4096 (length ss) (omega (arith, length-join P R))

  pub all_widened : norm (record { sets = join_sets P R; any = any }) ≡ norm (record { sets = []; any = union any (union (union wa wb) (all_of R)) })
  all_widened = go (filter (λ s. not (within s any)) (join_sets P R)) (filter_all (λ s. not (within s any)) (join_sets P R) outside)
    where
      go : (ss : List ℕ) → ss ≡ join_sets P R → ◌≡◌ {A = Share} (limited (record { sets = ss; any = any })) (record { sets = []; any = union any (union (union wa wb) (all_of R)) })
      go ss e =
          let Q : ℕ → Share = λ z. record { sets = []; any = union any z } in
          let C : Bool → Share = λ c. cond c (record { sets = []; any = union any (all_of ss) }) (record { sets = ss; any = any }) in
          ap C (still_many ss e) ∙ ap Q (ap all_of e ∙ same_vars)

-- ---- of a Share

module _ (plain : Bool) (sh : Share) (a b : ℕ) (normal : IsNormal sh) (narrow : meets (union (met sh a) (met sh b)) sh.any ≡ false) where
  -- `any` doesn't meet a side
  any_apart : (v : ℕ) → ((x : ℕ) → has (met sh v) x ≡ true → has (union (met sh a) (met sh b)) x ≡ true) → meets sh.any v ≡ false
  any_apart v up = false_from_ne_true (meets sh.any v) (λ e. clash (meets sh.any v) e (meets-none sh.any v (λ z i j.
      clash (meets (union (met sh a) (met sh b)) sh.any)
      (meets-at (union (met sh a) (met sh b)) sh.any z
      (up z (has-union (cond (meets sh.any v) sh.any empty) (all_of (meeting sh v)) z
      ∙ or_left (has (cond (meets sh.any v) sh.any empty) z) (has (all_of (meeting sh v)) z) (ap (λ c. has (cond c sh.any empty) z) e ∙ i))) i)
      narrow)))

  left_apart : meets sh.any a ≡ false
  left_apart = any_apart a (λ x h. has-union (met sh a) (met sh b) x ∙ or_left (has (met sh a) x) (has (met sh b) x) h)

  right_apart : meets sh.any b ≡ false
  right_apart = any_apart b (λ x h. has-union (met sh a) (met sh b) x ∙ or_right (has (met sh a) x) (has (met sh b) x) h)

  -- so what meets it are its sets' variables
  met-all : (v : ℕ) → meets sh.any v ≡ false → (x : ℕ) → has (met sh v) x ≡ has (all_of (meeting sh v)) x
  met-all v e x =
      has-union (cond (meets sh.any v) sh.any empty) (all_of (meeting sh v)) x
      ∙ ap (λ c. has (cond c sh.any empty) x || has (all_of (meeting sh v)) x) e ∙ ap (λ c. c || has (all_of (meeting sh v)) x) (has-empty x)

  in_side : (v : ℕ) → meets sh.any v ≡ false → (x r : ℕ) → Elem r (side plain (meeting sh v)) → has r x ≡ true → has (met sh v) x ≡ true
  in_side v e x r h k = met-all v e x ∙ (side-meets plain sh v r h).1 x k

  of_side : (v : ℕ) → meets sh.any v ≡ false → (x : ℕ) → has (met sh v) x ≡ true → In (λ s. has s x ≡ true) (side plain (meeting sh v))
  of_side v e x h =
      let r = In-some (λ s. has s x ≡ true) (meeting sh v) (has_all-In x (meeting sh v) (sym (met-all v e x) ∙ h)) in
      In-elem (λ s. has s x ≡ true) (side plain (meeting sh v)) r.0 (side-has plain sh v r.0 r.2) r.1

  pair_out : (s : ℕ) → Elem s (pairs (side plain (meeting sh a)) (side plain (meeting sh b))) → within s sh.any ≡ false
  pair_out s h =
      let q = pairs-back (side plain (meeting sh a)) (side plain (meeting sh b)) s h in
      false_from_ne_true (within s sh.any) (λ w.
      clash (meets s a) (ap (λ z. meets z a) (sym q.4) ∙ meets-more q.0 q.1 a (side-meets plain sh a q.0 q.2).0)
      (meets-none s a (λ x j k. clash (meets sh.any a) (meets-at sh.any a x (within-at s sh.any x w j) k) left_apart)))

  rest_out : (s : ℕ) → Elem s (filter (λ s. not (meets s (union a b))) sh.sets) → within s sh.any ≡ false
  rest_out s h = normal.apart s (listed-Elem s sh.sets (Elem-filter (λ s. not (meets s (union a b))) s sh.sets h).1)

  pub pairs_widened : is_wide plain sh a b ≡ false → too_many (pairs (side plain (meeting sh a)) (side plain (meeting sh b))) ≡ true
      → unify_share plain sh a b ≡ norm (record { sets = []; any = union sh.any (union (union (met sh a) (met sh b)) (all_of (filter (λ s. not (meets s (union a b))) sh.sets))) })
  pairs_widened few many = go (is_wide plain sh a b) few
    where
      all : norm (record { sets = join_sets (pairs (side plain (meeting sh a)) (side plain (meeting sh b))) (filter (λ s. not (meets s (union a b))) sh.sets); any = sh.any })
          ≡ norm (record { sets = []; any = union sh.any (union (union (met sh a) (met sh b)) (all_of (filter (λ s. not (meets s (union a b))) sh.sets))) })
      all =
          all_widened (side plain (meeting sh a)) (side plain (meeting sh b)) (pairs (side plain (meeting sh a)) (side plain (meeting sh b)))
          (filter (λ s. not (meets s (union a b))) sh.sets) sh.any (met sh a) (met sh b)
          (pairs-back (side plain (meeting sh a)) (side plain (meeting sh b))) (Elem-pairs (side plain (meeting sh a)) (side plain (meeting sh b)))
          (in_side a left_apart) (of_side a left_apart) (in_side b right_apart) (of_side b right_apart) pair_out rest_out many

      go : (w : Bool) → w ≡ false → cond w (widened_by sh (union (met sh a) (met sh b)))
          (norm (record { sets = join_sets (pairs (side plain (meeting sh a)) (side plain (meeting sh b))) (filter (λ s. not (meets s (union a b))) sh.sets); any = sh.any }))
          ≡ norm (record { sets = []; any = union sh.any (union (union (met sh a) (met sh b)) (all_of (filter (λ s. not (meets s (union a b))) sh.sets))) })
      go true e = absurd (false≢true (sym e))
      go false e = all

-- ---- the ways on, by what the code finds

some_kept : (t : Bool) (x : List ℕ) (y : List ℕ) → Some x ≡ (cond t None (Some y)) → (t ≡ false) × (x ≡ y)
some_kept true x y e = absurd (cc)
some_kept false x y e = let q : x ≡ y = cc in (refl, q)

none_kept : (t : Bool) (y : List ℕ) → None ≡ (cond t None (Some y)) → t ≡ true
none_kept true y e = refl
none_kept false y e = absurd (cc)

one_out : (p l r : Bool) → ((not p && l) ≡ true) ⊎ ((not p && r) ≡ true) → (not p && (l || r)) ≡ true
one_out true l r (inl e) = e
one_out true l r (inr e) = e
one_out false l r (inl e) = or_left l r e
one_out false l r (inr e) = or_right l r e

both_fit : (p l r : Bool) → (not p && l) ≡ false → (not p && r) ≡ false → (not p && (l || r)) ≡ false
both_fit true l r e f = refl
both_fit false true r e f = absurd (false≢true (sym e))
both_fit false false r e f = f

module _ (plain : Bool) (sh : Share) (a b : ℕ) (narrow : meets (union (met sh a) (met sh b)) sh.any ≡ false) where
  is_wide-narrow : is_wide plain sh a b ≡ (not plain && (too_many (closure (meeting sh a)) || too_many (closure (meeting sh b))))
  is_wide-narrow = ap (λ m. m || (not plain && (too_many (closure (meeting sh a)) || too_many (closure (meeting sh b))))) narrow

  wide_case : (w : Bool) → w ≡ true → widened_by sh (union (met sh a) (met sh b)) ≡ cond w (widened_by sh (union (met sh a) (met sh b)))
      (norm (record { sets = join_sets (pairs (side plain (meeting sh a)) (side plain (meeting sh b))) (filter (λ s. not (meets s (union a b))) sh.sets); any = sh.any }))
  wide_case true e = refl
  wide_case false e = absurd (false≢true e)

  narrow_case : (w : Bool) → w ≡ false
      → norm (record { sets = join_sets (pairs (side plain (meeting sh a)) (side plain (meeting sh b))) (filter (λ s. not (meets s (union a b))) sh.sets); any = sh.any })
      ≡ cond w (widened_by sh (union (met sh a) (met sh b)))
      (norm (record { sets = join_sets (pairs (side plain (meeting sh a)) (side plain (meeting sh b))) (filter (λ s. not (meets s (union a b))) sh.sets); any = sh.any }))
  narrow_case true e = absurd (false≢true (sym e))
  narrow_case false e = refl

  pub left_out : None ≡ (if not plain && too_many (closure (meeting sh a)) then None else Some (side plain (meeting sh a))) → widened_by sh (union (met sh a) (met sh b)) ≡ unify_share plain sh a b
  left_out e =
      wide_case (is_wide plain sh a b) (is_wide-narrow ∙ one_out plain (too_many (closure (meeting sh a))) (too_many (closure (meeting sh b)))
      (inl (none_kept (not plain && too_many (closure (meeting sh a))) (side plain (meeting sh a)) e)))

  pub right_out : None ≡ (if not plain && too_many (closure (meeting sh b)) then None else Some (side plain (meeting sh b))) → widened_by sh (union (met sh a) (met sh b)) ≡ unify_share plain sh a b
  right_out e =
      wide_case (is_wide plain sh a b) (is_wide-narrow ∙ one_out plain (too_many (closure (meeting sh a))) (too_many (closure (meeting sh b)))
      (inr (none_kept (not plain && too_many (closure (meeting sh b))) (side plain (meeting sh b)) e)))

  -- both sides are plain
  pub plain_fit : plain ≡ true → (sets : List ℕ) (new : Share) → sets ≡ join_sets (pairs (meeting sh a) (meeting sh b)) (filter (λ s. not (meets s (union a b))) sh.sets)
      → new ≡ norm (record { sets = sets; any = sh.any }) → new ≡ unify_share plain sh a b
  plain_fit p sets new e h =
      h ∙ ap (λ ss. norm (record { sets = ss; any = sh.any })) (e ∙ sides plain p) ∙ narrow_case (is_wide plain sh a b) (is_wide-narrow ∙ fit plain p)
    where
      sides : (q : Bool) → q ≡ true → join_sets (pairs (meeting sh a) (meeting sh b)) (filter (λ s. not (meets s (union a b))) sh.sets)
          ≡ join_sets (pairs (side q (meeting sh a)) (side q (meeting sh b))) (filter (λ s. not (meets s (union a b))) sh.sets)
      sides true k = refl
      sides false k = absurd (false≢true k)

      fit : (q : Bool) → q ≡ true → (not q && (too_many (closure (meeting sh a)) || too_many (closure (meeting sh b)))) ≡ false
      fit true k = refl
      fit false k = absurd (false≢true k)

  module _ (left right : List ℕ) (l : Some left ≡ (if not plain && too_many (closure (meeting sh a)) then None else Some (side plain (meeting sh a))))
      (r : Some right ≡ (if not plain && too_many (closure (meeting sh b)) then None else Some (side plain (meeting sh b)))) where
    few : is_wide plain sh a b ≡ false
    few =
        is_wide-narrow ∙ both_fit plain (too_many (closure (meeting sh a))) (too_many (closure (meeting sh b)))
        (some_kept (not plain && too_many (closure (meeting sh a))) left (side plain (meeting sh a)) l).0
        (some_kept (not plain && too_many (closure (meeting sh b))) right (side plain (meeting sh b)) r).0

    products : pairs left right ≡ pairs (side plain (meeting sh a)) (side plain (meeting sh b))
    products =
        ap₂ pairs (some_kept (not plain && too_many (closure (meeting sh a))) left (side plain (meeting sh a)) l).1
        (some_kept (not plain && too_many (closure (meeting sh b))) right (side plain (meeting sh b)) r).1

    pub pairs_fit : (sets rest all : List ℕ) (any : ℕ) (new : Share) → Some sets ≡ (if too_many (pairs left right) then None else Some (pairs left right))
        → rest ≡ filter (λ s. not (meets s (union a b))) sh.sets → all ≡ join_sets sets rest → any ≡ sh.any → new ≡ norm (record { sets = all; any = any }) → new ≡ unify_share plain sh a b
    pairs_fit sets rest all any new e f g i h =
        let P : List ℕ → ℕ → Share = λ ss v. norm (record { sets = ss; any = v }) in
        let q : sets ≡ pairs left right = (some_kept (too_many (pairs left right)) sets (pairs left right) e).1 in
        h ∙ ap₂ P (g ∙ ap₂ join_sets (q ∙ products) f) i ∙ narrow_case (is_wide plain sh a b) few

    pub pairs_out : IsNormal sh → (rest : List ℕ) (more : ℕ) (new : Share) → None ≡ (if too_many (pairs left right) then None else Some (pairs left right))
        → rest ≡ filter (λ s. not (meets s (union a b))) sh.sets → more ≡ union sh.any (union (union (met sh a) (met sh b)) (all_of rest)) → new ≡ norm (record { sets = []; any = more })
        → new ≡ unify_share plain sh a b
    pairs_out normal rest more new e f g h =
        let P : ℕ → Share = λ v. norm (record { sets = []; any = v }) in
        let Q : List ℕ → ℕ = λ ss. union sh.any (union (union (met sh a) (met sh b)) (all_of ss)) in
        h ∙ ap P (g ∙ ap Q f) ∙ sym (pairs_widened plain sh a b normal narrow few (ap too_many (sym products) ∙ none_kept (too_many (pairs left right)) (pairs left right) e))
