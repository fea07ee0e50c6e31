-- A clause that is called with anything is entered in a state of closed form: what stands in its head, place by place, joins what may be anything.
use Rattle.std.proofs.Common.{◌≡◌, ℕ, zero, suc, ◌+◌, ◌-◌, ◌<◌, ◌≤◌, ◌⊎◌, inl, inr, Bool, true, false, not, ◌||◌, ◌&&◌, nat_eq, cond, List, [], ◌∷◌, ◌++◌, map, length, if◌then◌else◌, IsTrue, refl, ap, ap₂, sym, ◌∙◌, subst, arith, append-nil}
use Rattle.std.specs.List.{filter}
use Rattle.std.proofs.lemmas.Bool.{false≢true, or_left, or_right, ltb-false, ltb-true}
use Rattle.ap_term.proofs.Facts.{same_bool}
use Rattle.ap_term.proofs.Solutions.{same_var}
use Rattle.ap_term.specs.Tree.{Tree, Trees, var, int, atom, node, none, more, count_trees}
use Rattle.ap_term.specs.Vars.{occurs, occurs_all}
use Rattle.ap_term.specs.WellFormed.{numbered, numbered_all}
use Rattle.ap_sharing.specs.VarSet.{has, empty, just, union, both, without, meets, within}
use Rattle.ap_sharing.specs.Sets.{In, IsAscending, insert_set, join_sets, sets_of, all_of, pairs, too_many}
use Rattle.ap_sharing.specs.Share.{Share, nonground, met, norm, limited, ground_share, project_share}
use Rattle.ap_sharing.proofs.Elements.{same_test, clash, has-empty, has-union, has-both, has-without, has-just, same_set, empty-union, meets-at, meets-none, within-at, within-made}
use Rattle.ap_sharing.proofs.Lists.{Elem, In-filter, In-insert_cases, by_cmp, ascending-insert, ascending-none}
use Rattle.ap_sharing.proofs.Made.{ascending-filter, join-sets_of}
use Rattle.ap_absunify.specs.declared.states.State.{State}
use Rattle.ap_absunify.specs.declared.states.State.TheVariants.{Unreachable, Reachable}
use Rattle.ap_absunify.specs.State.{made, ground, project}
use Rattle.ap_absunify.specs.TermSets.{var_set, var_set_all}
use Rattle.ap_absunify.specs.AfterUnify.{meeting, side, is_free, is_wide, widened_by, unify_share, free_after, unify_sides, after_unify}
use Rattle.ap_absunify.specs.AfterEqual.{after_all}
use Rattle.ap_absunify.proofs.TermSets.{has-var_set_all}
use Rattle.ap_absunify.proofs.Vars.{or_cases, decide, refuted}
use Rattle.ap_patterns.specs.Places.{arguments}
use Rattle.ap_patterns.specs.Entering.{own, with_own, own_sets, beside, beside_own, head_equations, enter}
use Rattle.ap_patterns.specs.Given.{any_pattern}
use Rattle.ap_patterns.specs.Anyhow.{anyhow}
use Rattle.ap_patterns.proofs.Entering.{own-range, own-has, with_own-own, beside-back, beside-forth, numbered-own, numbered-own_all}
use Rattle.ap_patterns.proofs.OwnSets.{own_sets-first}

-- ---- sets of one variable

just_self : (y : ℕ) → has (just y) y ≡ true
just_self y = has-just y y ∙ same_test y

is_just : (x y : ℕ) → has (just y) x ≡ true → x ≡ y
is_just x y h = same_var x y (sym (has-just y x) ∙ h)

just-within : (y w : ℕ) → within (just y) w ≡ has w y
just-within y w =
    same_bool (within (just y) w) (has w y) (λ h. within-at (just y) w y h (just_self y))
    (λ h. within-made (just y) w (λ x e. ap (has w) (is_just x y e) ∙ h))

just-meets : (y v : ℕ) → meets (just y) v ≡ has v y
just-meets y v = go (decide (has v y))
  where
    go : (has v y ≡ true) ⊎ (has v y ≡ false) → meets (just y) v ≡ has v y
    go (inl k) = meets-at (just y) v y (just_self y) k ∙ sym k
    go (inr k) = meets-none (just y) v (λ x a b. clash (has v y) (ap (has v) (sym (is_just x y a)) ∙ b) k) ∙ sym k

-- ---- filtered lists

filter-agree : (p q : ℕ → Bool) (ss : List ℕ) → ((s : ℕ) → Elem s ss → p s ≡ q s) → filter p ss ≡ filter q ss
filter-agree p q [] h = refl
filter-agree p q (s ∷ ss) h =
    ap₂ (λ b rest. if b then s ∷ rest else rest) (h s (inl refl)) (filter-agree p q ss (λ r i. h r (inr i)))

filter-twice : (p q : ℕ → Bool) (ss : List ℕ) → filter q (filter p ss) ≡ filter (λ s. p s && q s) ss
filter-twice p q [] = refl
filter-twice p q (s ∷ ss) = go (p s) refl (filter-twice p q ss)
  where
    go : (b : Bool) → p s ≡ b → filter q (filter p ss) ≡ filter (λ s. p s && q s) ss
        → filter q (if b then s ∷ filter p ss else filter p ss) ≡ (if b && q s then s ∷ filter (λ s. p s && q s) ss else filter (λ s. p s && q s) ss)
    go true e ih = ap (λ rest. if q s then s ∷ rest else rest) ih
    go false e ih = ih

filter-shorter : (p : ℕ → Bool) (ss : List ℕ) → length (filter p ss) ≤ length ss
filter-shorter p [] = omega arith
filter-shorter p (s ∷ ss) = go (p s) (filter-shorter p ss)
  where
    go : (b : Bool) → length (filter p ss) ≤ length ss → length (if b then s ∷ filter p ss else filter p ss) ≤ suc (length ss)
    go true ih = omega (arith, ih)
    go false ih = omega (arith, ih)

of_filter : (p : ℕ → Bool) (ss : List ℕ) (s : ℕ) → Elem s (filter p ss) → Elem s ss × (p s ≡ true)
of_filter p [] s h = absurd h
of_filter p (r ∷ ss) s h = go (p r) refl h (of_filter p ss s)
  where
    go : (b : Bool) → p r ≡ b → Elem s (if b then r ∷ filter p ss else filter p ss) → (Elem s (filter p ss) → Elem s ss × (p s ≡ true)) → Elem s (r ∷ ss) × (p s ≡ true)
    go true e (inl i) ih = (inl i, ap p i ∙ e)
    go true e (inr i) ih = let k = ih i in (inr k.0, k.1)
    go false e i ih = let k = ih i in (inr k.0, k.1)

all_of-some : (ss : List ℕ) (y : ℕ) → has (all_of ss) y ≡ true → (s : ℕ) × Elem s ss × (has s y ≡ true)
all_of-some [] y h = absurd (clash (has empty y) h (has-empty y))
all_of-some (s ∷ ss) y h = go (or_cases (has s y) (has (all_of ss) y) (sym (has-union s (all_of ss) y) ∙ h)) (all_of-some ss y)
  where
    go : (has s y ≡ true) ⊎ (has (all_of ss) y ≡ true) → (has (all_of ss) y ≡ true → (r : ℕ) × Elem r ss × (has r y ≡ true)) → (r : ℕ) × Elem r (s ∷ ss) × (has r y ≡ true)
    go (inl k) ih = (s, inl refl, k)
    go (inr k) ih = let r = ih k in (r.0, inr r.1, r.2)

all_of-at : (ss : List ℕ) (s y : ℕ) → Elem s ss → has s y ≡ true → has (all_of ss) y ≡ true
all_of-at [] s y h k = absurd h
all_of-at (r ∷ ss) s y (inl e) k = has-union r (all_of ss) y ∙ or_left (has r y) (has (all_of ss) y) (ap (λ z. has z y) (sym e) ∙ k)
all_of-at (r ∷ ss) s y (inr h) k = has-union r (all_of ss) y ∙ or_right (has r y) (has (all_of ss) y) (all_of-at ss s y h k)

insert-longer : (ss : List ℕ) (k : ℕ) → length (insert_set ss k) ≤ suc (length ss)
insert-longer [] k = omega arith
insert-longer (x ∷ xs) k =
    by_cmp (λ ts. length ts ≤ suc (suc (length xs))) k x (k ∷ x ∷ xs) (x ∷ xs) (x ∷ insert_set xs k) (λ l. omega arith) (λ e. omega arith) (λ g. omega (arith, insert-longer xs k))

-- ---- a clause's own variables, each alone

own-length : (n : ℕ) → length (with_own n []) ≤ n
own-length zero = omega arith
own-length (suc n) = omega (arith, insert-longer (with_own n []) (just (suc n)), own-length n)

own-ascending : (n : ℕ) → IsAscending (with_own n [])
own-ascending zero = ascending-none
own-ascending (suc n) = ascending-insert (with_own n []) (just (suc n)) (own-ascending n)

own-one : (n s : ℕ) → Elem s (with_own n []) → (y : ℕ) × (has (own n) y ≡ true) × (s ≡ just y)
own-one zero s h = absurd h
own-one (suc n) s h = go (In-insert_cases (λ r. s ≡ r) (with_own n []) (just (suc n)) h) (own-one n s)
  where
    go : (s ≡ just (suc n)) ⊎ Elem s (with_own n []) → (Elem s (with_own n []) → (y : ℕ) × (has (own n) y ≡ true) × (s ≡ just y)) → (y : ℕ) × (has (own (suc n)) y ≡ true) × (s ≡ just y)
    go (inl e) ih = (suc n, has-union (own n) (just (suc n)) (suc n) ∙ or_right (has (own n) (suc n)) (has (just (suc n)) (suc n)) (just_self (suc n)), e)
    go (inr i) ih = let r = ih i in (r.0, has-union (own n) (just (suc n)) r.0 ∙ or_left (has (own n) r.0) (has (just (suc n)) r.0) r.1, r.2)

module _ (n : ℕ) (few : n ≤ 255) where
  -- those that aren't within what may be anything
  abbrev apart : ℕ → List ℕ
  apart w = filter (λ s. not (within s w)) (with_own n [])

  abbrev spread : ℕ → Share
  spread w = record { sets = apart w; any = w }

  abbrev spread_state : ℕ → State
  spread_state w = Reachable (spread w) (without (own n) w)

  filtered-has : (p : ℕ → Bool) (y : ℕ) → has (all_of (filter p (with_own n []))) y ≡ (has (own n) y && p (just y))
  filtered-has p y = same_bool (has (all_of (filter p (with_own n []))) y) (has (own n) y && p (just y)) forth back
    where
      forth : has (all_of (filter p (with_own n []))) y ≡ true → (has (own n) y && p (just y)) ≡ true
      forth h =
          let r = all_of-some (filter p (with_own n [])) y h in
          let i = of_filter p (with_own n []) r.0 r.1 in
          let o = own-one n r.0 i.0 in
          let e : y ≡ o.0 = is_just y o.0 (ap (λ s. has s y) (sym o.2) ∙ r.2) in
          ap₂ (λ a b. a && b) (ap (has (own n)) e ∙ o.1) (ap (λ z. p (just z)) e ∙ ap p (sym o.2) ∙ i.1)

      parts : (a b : Bool) → (a && b) ≡ true → (a ≡ true) × (b ≡ true)
      parts true b h = (refl, h)
      parts false b h = absurd (false≢true h)

      back : (has (own n) y && p (just y)) ≡ true → has (all_of (filter p (with_own n []))) y ≡ true
      back h =
          let k = parts (has (own n) y) (p (just y)) h in
          all_of-at (filter p (with_own n [])) (just y) y
          (In-filter (λ r. just y ≡ r) p (with_own n []) (λ s e. ap p (sym e) ∙ k.1) (with_own-own (λ r. just y ≡ r) n y [] k.0 refl)) (just_self y)

  apart-has : (w y : ℕ) → has (all_of (apart w)) y ≡ (has (own n) y && not (has w y))
  apart-has w y = filtered-has (λ s. not (within s w)) y ∙ ap (λ b. has (own n) y && not b) (just-within y w)

  nonground-has : (w y : ℕ) → has (nonground (spread w)) y ≡ (has w y || (has (own n) y && not (has w y)))
  nonground-has w y = has-union w (all_of (apart w)) y ∙ ap (λ b. has w y || b) (apart-has w y)

  -- sets of these that leave out none but those within what may be anything
  norm-spread : (p : ℕ → Bool) (w : ℕ) → ((y : ℕ) → has (own n) y ≡ true → has w y ≡ false → p (just y) ≡ true) → norm (record { sets = filter p (with_own n []); any = w }) ≡ spread w
  norm-spread p w h = ap (λ ss. limited (record { sets = ss; any = w })) same ∙ ap (λ b. if b then widened else spread w) fewer
    where
      widened : Share
      widened = record { sets = []; any = nonground (spread w) }

      one : (a b : Bool) → (b ≡ false → a ≡ true) → (a && not b) ≡ not b
      one true b k = refl
      one false true k = refl
      one false false k = absurd (false≢true (k refl))

      each : (s : ℕ) → Elem s (with_own n []) → (p s && not (within s w)) ≡ not (within s w)
      each s i = let o = own-one n s i in one (p s) (within s w) (λ e. ap p o.2 ∙ h o.0 o.1 (sym (just-within o.0 w) ∙ ap (λ r. within r w) (sym o.2) ∙ e))

      same : filter (λ s. not (within s w)) (filter p (with_own n [])) ≡ apart w
      same = filter-twice p (λ s. not (within s w)) (with_own n []) ∙ filter-agree (λ s. p s && not (within s w)) (λ s. not (within s w)) (with_own n []) each

      fewer : too_many (apart w) ≡ false
      fewer = refuted (too_many (apart w)) (λ e. let l = ltb-true 4096 (length (apart w)) e in absurd (omega (arith, l, filter-shorter (λ s. not (within s w)) (with_own n []), own-length n, few)))

  -- what is free: the own variables that aren't within what may be anything
  made-spread : (w fr : ℕ) → ((y : ℕ) → has fr y ≡ (has (own n) y && not (has w y))) → made (spread w) fr ≡ spread_state w
  made-spread w fr h = ap (Reachable (spread w)) (same_set (both fr (nonground (spread w))) (without (own n) w) each)
    where
      one : (o w : Bool) → ((o && not w) && (w || (o && not w))) ≡ (o && not w)
      one true true = refl
      one true false = refl
      one false w = refl

      each : (y : ℕ) → has (both fr (nonground (spread w))) y ≡ has (without (own n) w) y
      each y = has-both fr (nonground (spread w)) y ∙ ap₂ (λ a b. a && b) (h y) (nonground-has w y) ∙ one (has (own n) y) (has w y) ∙ sym (has-without (own n) w y)

  -- ---- one place and its argument

  module _ (w i v : ℕ) (out : has (own n) i ≡ false) (inside : has w i ≡ true) (mine : (y : ℕ) → has v y ≡ true → has (own n) y ≡ true) where
    abbrev fr : ℕ
    fr = without (own n) w

    alone-met : meets w (just i) ≡ true
    alone-met = meets-at w (just i) i inside (just_self i)

    -- the members that meet the place
    met-place : (y : ℕ) → has (met (spread w) (just i)) y ≡ has w y
    met-place y =
        has-union (if meets w (just i) then w else empty) (all_of (filter (λ s. meets s (just i)) (apart w))) y
        ∙ ap₂ (λ a b. a || b) (ap (λ b. has (if b then w else empty) y) alone-met) rest ∙ last (has w y)
      where
        last : (b : Bool) → (b || false) ≡ b
        last true = refl
        last false = refl

        none_there : (o : Bool) → has (own n) y ≡ o → (o && (not (within (just y) w) && meets (just y) (just i))) ≡ false
        none_there false e = refl
        none_there true e =
            ap (λ b. not (within (just y) w) && b) (just-meets y (just i) ∙ refuted (has (just i) y) (λ k. clash (has (own n) i) (ap (has (own n)) (sym (is_just y i k)) ∙ e) out)) ∙ no (not (within (just y) w))
          where
            no : (b : Bool) → (b && false) ≡ false
            no true = refl
            no false = refl

        rest : has (all_of (filter (λ s. meets s (just i)) (apart w))) y ≡ false
        rest =
            ap (λ ss. has (all_of ss) y) (filter-twice (λ s. not (within s w)) (λ s. meets s (just i)) (with_own n []))
            ∙ filtered-has (λ s. not (within s w) && meets s (just i)) y ∙ none_there (has (own n) y) refl

    -- the members that meet its argument
    met-argument : (y : ℕ) → has (met (spread w) v) y ≡ (has (if meets w v then w else empty) y || (has (own n) y && (not (has w y) && has v y)))
    met-argument y =
        has-union (if meets w v then w else empty) (all_of (filter (λ s. meets s v) (apart w))) y
        ∙ ap (λ b. has (if meets w v then w else empty) y || b)
        (ap (λ ss. has (all_of ss) y) (filter-twice (λ s. not (within s w)) (λ s. meets s v) (with_own n []))
        ∙ filtered-has (λ s. not (within s w) && meets s v) y ∙ ap₂ (λ a b. has (own n) y && (not a && b)) (just-within y w) (just-meets y v))

    -- what is within `any` from here on
    abbrev wider : ℕ
    wider = union w (union (met (spread w) (just i)) (met (spread w) v))

    wider-has : (y : ℕ) → has wider y ≡ (has w y || has v y)
    wider-has y =
        has-union w (union (met (spread w) (just i)) (met (spread w) v)) y
        ∙ ap (λ b. has w y || b) (has-union (met (spread w) (just i)) (met (spread w) v) y ∙ ap₂ (λ a b. a || b) (met-place y) (met-argument y))
        ∙ ap (λ b. has w y || (has w y || (b || (has (own n) y && (not (has w y) && has v y))))) (inner (meets w v)) ∙ go (meets w v) (has w y) (has (own n) y) (has v y) (mine y)
      where
        inner : (m : Bool) → has (if m then w else empty) y ≡ (m && has w y)
        inner true = refl
        inner false = has-empty y

        go : (m a o b : Bool) → (b ≡ true → o ≡ true) → (a || (a || ((m && a) || (o && (not a && b))))) ≡ (a || b)
        go m true o b k = refl
        go true false true b k = refl
        go true false false true k = absurd (false≢true (k refl))
        go true false false false k = refl
        go false false true b k = refl
        go false false false true k = absurd (false≢true (k refl))
        go false false false false k = refl

    argument-has : (y : ℕ) → has (met (spread w) v) y ≡ ((meets w v && has w y) || (has (own n) y && (not (has w y) && has v y)))
    argument-has y = met-argument y ∙ ap (λ b. b || (has (own n) y && (not (has w y) && has v y))) (inner (meets w v))
      where
        inner : (m : Bool) → has (if m then w else empty) y ≡ (m && has w y)
        inner true = refl
        inner false = has-empty y

    still-free : (q : Bool) (y : ℕ) → has (free_after false q fr (met (spread w) (just i)) (met (spread w) v)) y ≡ (has (own n) y && not (has wider y))
    still-free true y =
        has-without fr (met (spread w) v) y ∙ ap₂ (λ a b. a && not b) (has-without (own n) w y) (argument-has y) ∙ go (meets w v) (has w y) (has (own n) y) (has v y)
        ∙ sym (ap (λ b. has (own n) y && not b) (wider-has y))
      where
        go : (m a o b : Bool) → ((o && not a) && not ((m && a) || (o && (not a && b)))) ≡ (o && not (a || b))
        go m a false b = refl
        go m true true b = refl
        go true false true b = refl
        go false false true b = refl
    still-free false y =
        has-without fr (union (met (spread w) (just i)) (met (spread w) v)) y
        ∙ ap₂ (λ a b. a && not b) (has-without (own n) w y) (has-union (met (spread w) (just i)) (met (spread w) v) y ∙ ap₂ (λ a b. a || b) (met-place y) (argument-has y))
        ∙ go (meets w v) (has w y) (has (own n) y) (has v y) ∙ sym (ap (λ b. has (own n) y && not b) (wider-has y))
      where
        go : (m a o b : Bool) → ((o && not a) && not (a || ((m && a) || (o && (not a && b))))) ≡ (o && not (a || b))
        go m a false b = refl
        go m true true b = refl
        go true false true b = refl
        go false false true b = refl

    out_apart : (y : ℕ) → has (own n) y ≡ true → has w y ≡ false → not (within (just y) w) ≡ true
    out_apart y o e = ap not (just-within y w ∙ e)

    both_out : (a b : Bool) → (a || b) ≡ false → a ≡ false
    both_out true b e = e
    both_out false b e = refl

    widened : widened_by (spread w) (union (met (spread w) (just i)) (met (spread w) v)) ≡ spread wider
    widened = norm-spread (λ s. not (within s w)) wider (λ y o e. out_apart y o (both_out (has w y) (has v y) (sym (wider-has y) ∙ e)))

    is_wide-here : (plain : Bool) → is_wide plain (spread w) (just i) v ≡ true
    is_wide-here plain =
        or_left (meets (union (met (spread w) (just i)) (met (spread w) v)) w) _
        (meets-at (union (met (spread w) (just i)) (met (spread w) v)) w i
        (has-union (met (spread w) (just i)) (met (spread w) v) i ∙ or_left (has (met (spread w) (just i)) i) (has (met (spread w) v) i) (met-place i ∙ inside)) inside)

    unified : (plain : Bool) → unify_share plain (spread w) (just i) v ≡ spread wider
    unified plain =
        ap (λ b. if b then widened_by (spread w) (union (met (spread w) (just i)) (met (spread w) v)) else joined plain) (is_wide-here plain) ∙ widened
      where
        joined : Bool → Share
        joined plain = norm (record {
          sets = join_sets (pairs (side plain (meeting (spread w) (just i))) (side plain (meeting (spread w) v))) (filter (λ s. not (meets s (union (just i) v))) (apart w));
          any = w;
        })

    not_free : has fr i ≡ false
    not_free = has-without (own n) w i ∙ ap (λ b. b && not (has w i)) out

    joins : (t : Tree) → var_set t ≡ v → made (unify_share (has fr i || is_free fr t) (spread w) (just i) v) (free_after (has fr i) (is_free fr t) fr (met (spread w) (just i)) (met (spread w) v)) ≡ spread_state wider
    joins t e =
        ap₂ made (unified (has fr i || is_free fr t)) (ap (λ b. free_after b (is_free fr t) fr (met (spread w) (just i)) (met (spread w) v)) not_free)
        ∙ made-spread wider (free_after false (is_free fr t) fr (met (spread w) (just i)) (met (spread w) v)) (still-free (is_free fr t))

    -- an argument without variables: the place is ground
    abbrev narrower : ℕ
    narrower = without w (just i)

    not_own : (y : ℕ) → has (own n) y ≡ true → has (just i) y ≡ false
    not_own y o = refuted (has (just i) y) (λ k. clash (has (own n) i) (ap (has (own n)) (sym (is_just y i k)) ∙ o) out)

    grounds : ground (spread_state w) (just i) ≡ spread_state narrower
    grounds =
        ap (λ sh. made sh free) (ap (λ ss. norm (record { sets = ss; any = narrower })) (filter-twice (λ s. not (within s w)) (λ s. not (meets s (just i))) (with_own n []))
        ∙ norm-spread (λ s. not (within s w) && not (meets s (just i))) narrower kept)
        ∙ made-spread narrower free each
      where
        free : ℕ
        free = without fr (union (just i) (met (spread w) (just i)))

        kept : (y : ℕ) → has (own n) y ≡ true → has narrower y ≡ false → (not (within (just y) w) && not (meets (just y) (just i))) ≡ true
        kept y o e =
            ap₂ (λ a b. not a && not b) (just-within y w) (just-meets y (just i) ∙ not_own y o) ∙ go (has w y) (sym (has-without w (just i) y ∙ ap (λ b. has w y && not b) (not_own y o)) ∙ e)
          where
            go : (a : Bool) → (a && true) ≡ false → (not a && true) ≡ true
            go true k = absurd (false≢true (sym k))
            go false k = refl

        each : (y : ℕ) → has free y ≡ (has (own n) y && not (has narrower y))
        each y =
            has-without fr (union (just i) (met (spread w) (just i))) y
            ∙ ap₂ (λ a b. a && not b) (has-without (own n) w y) (has-union (just i) (met (spread w) (just i)) y ∙ ap (λ b. has (just i) y || b) (met-place y))
            ∙ go (has (own n) y) (has w y) (has (just i) y) (not_own y) ∙ sym (ap (λ b. has (own n) y && not b) (has-without w (just i) y))
          where
            go : (o a j : Bool) → (o ≡ true → j ≡ false) → ((o && not a) && not (j || a)) ≡ (o && not (a && not j))
            go false a j k = refl
            go true a true k = absurd (false≢true (sym (k refl)))
            go true true false k = refl
            go true false false k = refl

  step : (w i : ℕ) (t : Tree) → has (own n) i ≡ false → has w i ≡ true → ((y : ℕ) → has (var_set t) y ≡ true → has (own n) y ≡ true)
      → (w2 : ℕ) × (after_unify (spread_state w) i t ≡ spread_state w2) × ((y : ℕ) → nat_eq y i ≡ false → has w2 y ≡ (has w y || has (var_set t) y))
  step w i t out inside mine = go (decide (meets (nonground (spread w)) (var_set t)))
    where
      second : Bool → State
      second b = if not b then ground (spread_state w) (just i) else unify_sides (spread w) (without (own n) w) i t

      first : after_unify (spread_state w) i t ≡ second (meets (nonground (spread w)) (var_set t))
      first = ap (λ b. if not b then ground (spread_state w) (var_set t) else second (meets (nonground (spread w)) (var_set t))) (nonground-has w i ∙ or_left (has w i) _ inside)

      go : (meets (nonground (spread w)) (var_set t) ≡ true) ⊎ (meets (nonground (spread w)) (var_set t) ≡ false)
          → (w2 : ℕ) × (after_unify (spread_state w) i t ≡ spread_state w2) × ((y : ℕ) → nat_eq y i ≡ false → has w2 y ≡ (has w y || has (var_set t) y))
      go (inl k) = (wider w i (var_set t) out inside mine, first ∙ ap second k ∙ joins w i (var_set t) out inside mine t refl, λ y e. wider-has w i (var_set t) out inside mine y)
      go (inr k) = (without w (just i), first ∙ ap second k ∙ grounds w i (var_set t) out inside mine, rest)
        where
          either : (a : Bool) → (a || (true && not a)) ≡ true
          either true = refl
          either false = refl

          known : (y : ℕ) → has (var_set t) y ≡ true → has (nonground (spread w)) y ≡ true
          known y e = nonground-has w y ∙ ap (λ o. has w y || (o && not (has w y))) (mine y e) ∙ either (has w y)

          bare : (y : ℕ) → has (var_set t) y ≡ false
          bare y = refuted (has (var_set t) y) (λ e. clash (meets (nonground (spread w)) (var_set t)) (meets-at (nonground (spread w)) (var_set t) y (known y e) e) k)

          rest : (y : ℕ) → nat_eq y i ≡ false → has (without w (just i)) y ≡ (has w y || has (var_set t) y)
          rest y e = has-without w (just i) y ∙ ap (λ b. has w y && not b) (has-just i y ∙ e) ∙ one (has w y) ∙ sym (ap (λ b. has w y || b) (bare y))
            where
              one : (a : Bool) → (a && true) ≡ (a || false)
              one true = refl
              one false = refl

  or_assoc : (a b c : Bool) → ((a || b) || c) ≡ (a || (b || c))
  or_assoc true b c = refl
  or_assoc false b c = refl

  or_none : (a : Bool) → a ≡ (a || false)
  or_none true = refl
  or_none false = refl

  past_own : (y : ℕ) → n < y → has (own n) y ≡ false
  past_own y l = refuted (has (own n) y) (λ k. let r = own-range n y k in absurd (omega (arith, r.1, l)))

  apart_from : (y i : ℕ) → (y ≡ i → ⊥) → nat_eq y i ≡ false
  apart_from y i h = refuted (nat_eq y i) (λ e. h (same_var y i e))

  -- place by place
  along_head : (i : ℕ) (hs : Trees) (w : ℕ) → n < i → ((y : ℕ) → i ≤ y → y < i + count_trees hs → has w y ≡ true) → ((y : ℕ) → has (var_set_all hs) y ≡ true → has (own n) y ≡ true)
      → (w2 : ℕ) × (after_all (spread_state w) (head_equations i hs) ≡ spread_state w2) × ((y : ℕ) → has (own n) y ≡ true → has w2 y ≡ (has w y || has (var_set_all hs) y))
  along_head i none w l h mine = (w, refl, λ y o. or_none (has w y) ∙ sym (ap (λ b. has w y || b) (has-empty y)))
  along_head i (more t ts) w l h mine =
      let s = step w i t (past_own i l) (h i (omega arith) (omega arith)) (λ y k. mine y (has-union (var_set t) (var_set_all ts) y ∙ or_left (has (var_set t) y) (has (var_set_all ts) y) k)) in
      let r = along_head (suc i) ts s.0 (omega (arith, l))
      (λ y a b. s.2 y (apart_from y i (λ e. omega (arith, a, e))) ∙ or_left (has w y) (has (var_set t) y) (h y (omega (arith, a)) (omega (arith, b))))
      (λ y k. mine y (has-union (var_set t) (var_set_all ts) y ∙ or_right (has (var_set t) y) (has (var_set_all ts) y) k)) in (
        r.0,
        ap (λ z. after_all z (head_equations (suc i) ts)) s.1 ∙ r.1,
        λ y o.
            r.2 y o ∙ ap (λ b. b || has (var_set_all ts) y) (s.2 y (apart_from y i (λ e. let k = own-range n y o in omega (arith, k.1, l, e))))
            ∙ or_assoc (has w y) (has (var_set t) y) (has (var_set_all ts) y) ∙ sym (ap (λ b. has w y || b) (has-union (var_set t) (var_set_all ts) y)),
      )

  map-same : (f : ℕ → ℕ) (ss : List ℕ) → ((s : ℕ) → Elem s ss → f s ≡ s) → map f ss ≡ ss
  map-same f [] h = refl
  map-same f (s ∷ ss) h = ap₂ (λ r rs. r ∷ rs) (h s (inl refl)) (map-same f ss (λ r i. h r (inr i)))

  filter-all : (ss : List ℕ) → filter (λ s. true) ss ≡ ss
  filter-all [] = refl
  filter-all (s ∷ ss) = ap (λ rs. s ∷ rs) (filter-all ss)

  norm-own : (w : ℕ) → norm (record { sets = with_own n []; any = w }) ≡ spread w
  norm-own w = ap (λ ss. norm (record { sets = ss; any = w })) (sym (filter-all (with_own n []))) ∙ norm-spread (λ s. true) w (λ y o e. refl)

  -- the places are let go
  let_go : (w v : ℕ) → ((y : ℕ) → has v y ≡ true → has (own n) y ≡ true) → ((y : ℕ) → has (own n) y ≡ true → has w y ≡ has v y) → project (spread_state w) (own n) ≡ spread_state v
  let_go w v mine same = ap (λ sh. made sh (both (without (own n) w) (own n))) share ∙ made-spread v (both (without (own n) w) (own n)) free
    where
      cut : (y x : ℕ) → has (own n) y ≡ true → has (both (just y) (own n)) x ≡ has (just y) x
      cut y x o = has-both (just y) (own n) x ∙ go (has (just y) x) (λ e. ap (has (own n)) (is_just x y e) ∙ o)
        where
          go : (b : Bool) → (b ≡ true → has (own n) x ≡ true) → (b && has (own n) x) ≡ b
          go true k = k refl
          go false k = refl

      own_cut : (s : ℕ) → Elem s (apart w) → both s (own n) ≡ s
      own_cut s i =
          let o = own-one n s (of_filter (λ r. not (within r w)) (with_own n []) s i).0 in
          ap (λ z. both z (own n)) o.2 ∙ same_set (both (just o.0) (own n)) (just o.0) (λ x. cut o.0 x o.1) ∙ sym o.2

      in_order : sets_of (apart w) ≡ apart w
      in_order = sym (ap sets_of (append-nil (apart w))) ∙ join-sets_of (apart w) [] (ascending-filter (λ s. not (within s w)) (with_own n []) (own-ascending n))

      any : both w (own n) ≡ v
      any = same_set (both w (own n)) v (λ y. has-both w (own n) y ∙ go y (decide (has (own n) y)))
        where
          right : (a : Bool) → (a && true) ≡ a
          right true = refl
          right false = refl

          none_left : (a : Bool) → (a && false) ≡ false
          none_left true = refl
          none_left false = refl

          go : (y : ℕ) → (has (own n) y ≡ true) ⊎ (has (own n) y ≡ false) → (has w y && has (own n) y) ≡ has v y
          go y (inl o) = ap (λ b. has w y && b) o ∙ right (has w y) ∙ same y o
          go y (inr o) = ap (λ b. has w y && b) o ∙ none_left (has w y) ∙ sym (refuted (has v y) (λ e. clash (has (own n) y) (mine y e) o))

      share : project_share (spread w) (own n) ≡ spread v
      share =
          ap₂ (λ ss a. norm (record { sets = ss; any = a })) (ap sets_of (map-same (λ s. both s (own n)) (apart w) own_cut) ∙ in_order) any
          ∙ norm-spread (λ s. not (within s w)) v (λ y o e. ap not (just-within y w ∙ same y o ∙ e))

      free : (y : ℕ) → has (both (without (own n) w) (own n)) y ≡ (has (own n) y && not (has v y))
      free y = has-both (without (own n) w) (own n) y ∙ ap (λ b. b && has (own n) y) (has-without (own n) w y) ∙ go (decide (has (own n) y))
        where
          right : (a : Bool) → (a && true) ≡ a
          right true = refl
          right false = refl

          go : (has (own n) y ≡ true) ⊎ (has (own n) y ≡ false) → ((has (own n) y && not (has w y)) && has (own n) y) ≡ (has (own n) y && not (has v y))
          go (inl o) = ap (λ b. (b && not (has w y)) && b) o ∙ right (not (has w y)) ∙ ap not (same y o) ∙ sym (ap (λ b. b && not (has v y)) o)
          go (inr o) = ap (λ b. (b && not (has w y)) && b) o ∙ sym (ap (λ b. b && not (has v y)) o)

  -- the places may be anything
  placed-own : (k y : ℕ) → has (own n) y ≡ true → has (beside n k (own k)) y ≡ false
  placed-own k y o = refuted (has (beside n k (own k)) y) (λ e. let b = beside-back n k (own k) y e in let r = own-range n y o in absurd (omega (arith, b.0, r.1)))

  begun : (k : ℕ) → beside_own n k (any_pattern k) ≡ spread_state (beside n k (own k))
  begun k = ap (λ sh. made sh (union (own n) (beside n k empty))) (norm-own (beside n k (own k))) ∙ made-spread (beside n k (own k)) (union (own n) (beside n k empty)) free
    where
      go : (o b c : Bool) → c ≡ false → (o ≡ true → b ≡ false) → (o || c) ≡ (o && not b)
      go true b c e f = sym (ap not (f refl))
      go false b c e f = e

      free : (y : ℕ) → has (union (own n) (beside n k empty)) y ≡ (has (own n) y && not (has (beside n k (own k)) y))
      free y =
          has-union (own n) (beside n k empty) y
          ∙ go (has (own n) y) (has (beside n k (own k)) y) (has (beside n k empty) y)
          (refuted (has (beside n k empty) y) (λ e. clash (has empty (y - n)) (beside-back n k empty y e).2 (has-empty (y - n)))) (placed-own k y)

  closed : (hs : Trees) → ((y : ℕ) → has (var_set_all hs) y ≡ true → has (own n) y ≡ true)
      → project (after_all (beside_own n (count_trees hs) (any_pattern (count_trees hs))) (head_equations (n + 1) hs)) (own n) ≡ anyhow n hs
  closed hs mine =
      let k = count_trees hs in
      let b = beside n k (own k) in
      let r = along_head (n + 1) hs b (omega arith) (λ y l h. beside-forth n k (own k) y (omega (arith, l)) (omega (arith, h)) (own-has k (y - n) (omega (arith, l)) (omega (arith, h)))) mine in
      ap (λ s. project (after_all s (head_equations (n + 1) hs)) (own n)) (begun k) ∙ ap (λ s. project s (own n)) r.1
      ∙ let_go r.0 (var_set_all hs) mine (λ y o. r.2 y o ∙ ap (λ c. c || has (var_set_all hs) y) (placed-own k y o))
      ∙ sym (ap (λ sh. made sh (without (own n) (var_set_all hs))) (ap (λ ss. norm (record { sets = ss; any = var_set_all hs })) own_first ∙ norm-own (var_set_all hs))
      ∙ made-spread (var_set_all hs) (without (own n) (var_set_all hs)) (λ y. has-without (own n) (var_set_all hs) y))
    where
      own_first : sets_of (own_sets n) ≡ with_own n []
      own_first = sym (ap sets_of (append-nil (own_sets n))) ∙ own_sets-first n []

numbered-mine : (n : ℕ) (head : Tree) → IsTrue (numbered n head) → (y : ℕ) → has (var_set_all (arguments head)) y ≡ true → has (own n) y ≡ true
numbered-mine n (var x) h y o = absurd (clash (has empty y) o (has-empty y))
numbered-mine n (int z) h y o = absurd (clash (has empty y) o (has-empty y))
numbered-mine n (atom a) h y o = absurd (clash (has empty y) o (has-empty y))
numbered-mine n (node a ts) h y o = numbered-own_all n ts h y (sym (has-var_set_all ts y) ∙ o)

pub enter-anyhow : (n : ℕ) (head : Tree) → n ≤ 255 → IsTrue (numbered n head) → enter n head (any_pattern (count_trees (arguments head))) ≡ anyhow n (arguments head)
enter-anyhow n head few h = closed n few (arguments head) (numbered-mine n head h)

pub ruleset rules_of_anyhow = (empty-union)
