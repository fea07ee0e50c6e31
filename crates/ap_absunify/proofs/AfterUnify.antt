-- The state after a variable and a term were unified covers.
use Rattle.std.proofs.Common.{◌≡◌, ℕ, ◌⊎◌, inl, inr, Bool, true, false, not, ◌||◌, ◌&&◌, nat_eq, cond, List, refl, ap, sym, ◌∙◌, subst}
use Rattle.std.proofs.lemmas.Bool.{false≢true, or_left, or_right}
use Rattle.std.specs.List.{filter}
use Rattle.ap_term.proofs.Facts.{same_bool}
use Rattle.ap_term.specs.Tree.{Tree, Trees, var, int, atom, node, none, more}
use Rattle.ap_term.specs.Substitution.{instance}
use Rattle.ap_term.specs.Vars.{occurs, occurs_all}
use Rattle.ap_sharing.specs.VarSet.{has, just, union, meets}
use Rattle.ap_sharing.specs.Sets.{In, Is, join_sets, pairs, closure, too_many}
use Rattle.ap_sharing.specs.Share.{Share, Member, nonground, norm, met}
use Rattle.ap_sharing.specs.Covering.{CoversShare}
use Rattle.ap_freeness.specs.Free.{CoversFree, IsVar}
use Rattle.ap_absunify.specs.TermSets.{var_set}
use Rattle.ap_absunify.specs.MostGeneral.{MostGeneral}
use Rattle.ap_absunify.specs.declared.states.State.{State}
use Rattle.ap_absunify.specs.declared.states.State.TheVariants.{Unreachable, Reachable}
use Rattle.ap_absunify.specs.State.{Covers, ground}
use Rattle.ap_absunify.specs.AfterUnify.{side, is_wide, unify_share, is_free, free_after, unify_sides, after_unify}
use Rattle.ap_absunify.proofs.Grounding.{ground-covers}
use Rattle.ap_absunify.proofs.TermSets.{has-var_set}
use Rattle.ap_absunify.proofs.Unifier.{stays, none_new, swapped, one_left, not_there, still_var, still_vars}
use Rattle.ap_absunify.proofs.Vars.{or_cases, or_false, or_none, and_both, and_made, decide, refuted, any_var, any_var_all, occurs_instance, any_some, any_at, occurs_same}
use Rattle.ap_sharing.proofs.Closures.{In-closure, closure-union}
use Rattle.ap_sharing.proofs.Covers.{Member-same, Member-nonground, Member-norm, met-has}
use Rattle.ap_sharing.proofs.Elements.{same_test, clash, has-union, has-just, meets-at, meets-none, both_left, without_parts}
use Rattle.ap_sharing.proofs.Lists.{In-weaken, In-filter, In-join_left, In-join_right, Is-same, In-pairs}
use Rattle.ap_term.proofs.Solutions.{same_var}

-- whether a variable of c that gets w stands in the instance of y
abbrev pub touch : (ℕ → Tree) → (ℕ → Tree) → ℕ → Tree → ℕ → Bool
touch u f w c y = any_var (λ v. occurs w (u v) && occurs v (f y)) c

abbrev pub touch_all : (ℕ → Tree) → (ℕ → Tree) → ℕ → Trees → ℕ → Bool
touch_all u f w cs y = any_var_all (λ v. occurs w (u v) && occurs v (f y)) cs

mutual
  touch_none : (u f : ℕ → Tree) (w : ℕ) (c : Tree) (y : ℕ) → any_var (λ v. occurs w (u v)) c ≡ false → touch u f w c y ≡ false
  touch_none u f w (var v) y h = ap (λ b. b && occurs v (f y)) h
  touch_none u f w (int z) y h = refl
  touch_none u f w (atom a) y h = refl
  touch_none u f w (node a cs) y h = touch_all_none u f w cs y h

  touch_all_none : (u f : ℕ → Tree) (w : ℕ) (cs : Trees) (y : ℕ) → any_var_all (λ v. occurs w (u v)) cs ≡ false → touch_all u f w cs y ≡ false
  touch_all_none u f w none y h = refl
  touch_all_none u f w (more c cs) y h =
      let k = or_none (any_var (λ v. occurs w (u v)) c) (any_var_all (λ v. occurs w (u v)) cs) h in
      or_false (touch u f w c y) (touch_all u f w cs y) (touch_none u f w c y k.0) (touch_all_none u f w cs y k.1)

-- of a variable one set serves
fill_var : (u f : ℕ → Tree) (w p : ℕ) (ss : List ℕ) → In (λ s. Is s (λ y. occurs p (f y))) ss → occurs w (u p) ≡ true → In (λ s. Is s (λ y. touch u f w (var p) y)) ss
fill_var u f w p ss h k =
    In-weaken (λ s. Is s (λ y. occurs p (f y))) (λ s. Is s (λ y. touch u f w (var p) y)) ss
    (λ s i. Is-same s (λ y. occurs p (f y)) (λ y. touch u f w (var p) y) (λ y. sym (ap (λ b. b && occurs p (f y)) k)) i) h

mutual
  -- the sets of a tree's variables that get w, united
  pub fill : (u f : ℕ → Tree) (w : ℕ) (ss : List ℕ) (c : Tree) → ((v : ℕ) → occurs v c ≡ true → occurs w (u v) ≡ true → In (λ s. Is s (λ y. occurs v (f y))) ss)
      → any_var (λ v. occurs w (u v)) c ≡ true → In (λ s. Is s (λ y. touch u f w c y)) (closure ss)
  fill u f w ss (var v) h k = In-closure (λ s. Is s (λ y. touch u f w (var v) y)) ss (fill_var u f w v ss (h v (same_test v) k) k)
  fill u f w ss (int z) h k = absurd (false≢true k)
  fill u f w ss (atom a) h k = absurd (false≢true k)
  fill u f w ss (node a cs) h k = fill_all u f w ss cs h k

  pub fill_all : (u f : ℕ → Tree) (w : ℕ) (ss : List ℕ) (cs : Trees) → ((v : ℕ) → occurs_all v cs ≡ true → occurs w (u v) ≡ true → In (λ s. Is s (λ y. occurs v (f y))) ss)
      → any_var_all (λ v. occurs w (u v)) cs ≡ true → In (λ s. Is s (λ y. touch_all u f w cs y)) (closure ss)
  fill_all u f w ss none h k = absurd (false≢true k)
  fill_all u f w ss (more c cs) h k =
      go (any_var (λ v. occurs w (u v)) c) refl (any_var_all (λ v. occurs w (u v)) cs) refl
      (fill u f w ss c (λ v o. h v (or_left (occurs v c) (occurs_all v cs) o))) (fill_all u f w ss cs (λ v o. h v (or_right (occurs v c) (occurs_all v cs) o)))
    where
      go : (a : Bool) → any_var (λ v. occurs w (u v)) c ≡ a → (b : Bool) → any_var_all (λ v. occurs w (u v)) cs ≡ b
          → (any_var (λ v. occurs w (u v)) c ≡ true → In (λ s. Is s (λ y. touch u f w c y)) (closure ss))
          → (any_var_all (λ v. occurs w (u v)) cs ≡ true → In (λ s. Is s (λ y. touch_all u f w cs y)) (closure ss))
          → In (λ s. Is s (λ y. touch u f w c y || touch_all u f w cs y)) (closure ss)
      go true i true j m n = closure-union (λ y. touch u f w c y) (λ y. touch_all u f w cs y) ss (m i) (n j)
      go true i false j m n =
          In-weaken (λ s. Is s (λ y. touch u f w c y)) (λ s. Is s (λ y. touch u f w c y || touch_all u f w cs y)) (closure ss)
          (λ s l. Is-same s (λ y. touch u f w c y) (λ y. touch u f w c y || touch_all u f w cs y) (λ y. right_none (touch u f w c y) (touch_all u f w cs y) (touch_all_none u f w cs y j)) l) (m i)
        where
          right_none : (a b : Bool) → b ≡ false → a ≡ (a || b)
          right_none true b e = refl
          right_none false b e = sym e
      go false i true j m n =
          In-weaken (λ s. Is s (λ y. touch_all u f w cs y)) (λ s. Is s (λ y. touch u f w c y || touch_all u f w cs y)) (closure ss)
          (λ s l. Is-same s (λ y. touch_all u f w cs y) (λ y. touch u f w c y || touch_all u f w cs y) (λ y. sym (ap (λ b. b || touch_all u f w cs y) (touch_none u f w c y i))) l) (n j)
      go false i false j m n = absurd (false≢true (sym (or_false (any_var (λ v. occurs w (u v)) c) (any_var_all (λ v. occurs w (u v)) cs) i j) ∙ k))

-- where u leaves a tree's variables alone, the set of w itself serves
fill_left : (u f : ℕ → Tree) (w : ℕ) (ss : List ℕ) (c : Tree) → ((v : ℕ) → occurs v c ≡ true → In (λ s. Is s (λ y. occurs v (f y))) ss)
    → ((v : ℕ) → occurs v c ≡ true → u v ≡ var v) → any_var (λ v. occurs w (u v)) c ≡ true → In (λ s. Is s (λ y. touch u f w c y)) ss
fill_left u f w ss c h st k =
    In-weaken (λ s. Is s (λ y. occurs w (f y))) (λ s. Is s (λ y. touch u f w c y)) ss (λ s i. Is-same s (λ y. occurs w (f y)) (λ y. touch u f w c y) same i) (h w there)
  where
    only : (v : ℕ) → occurs v c ≡ true → occurs w (u v) ≡ true → w ≡ v
    only v o j = same_var w v (sym (ap (occurs w) (st v o)) ∙ j)

    there : occurs w c ≡ true
    there = let r = any_some (λ v. occurs w (u v)) c k in ap (λ z. occurs z c) (only r.0 r.1 r.2) ∙ r.1

    same : (y : ℕ) → occurs w (f y) ≡ touch u f w c y
    same y =
        same_bool (occurs w (f y)) (touch u f w c y)
        (λ o. any_at (λ v. occurs w (u v) && occurs v (f y)) w c there (and_made (occurs w (u w)) (occurs w (f y)) (ap (occurs w) (st w there) ∙ same_test w) o))
        (λ o.
        let r = any_some (λ v. occurs w (u v) && occurs v (f y)) c o in
        let b = and_both (occurs w (u r.0)) (occurs r.0 (f y)) r.2 in
        ap (λ z. occurs z (f y)) (only r.0 r.1 b.0) ∙ b.1)

module _ (f u : ℕ → Tree) (a b : Tree) (m : MostGeneral a b u) where
  -- a variable of neither side stays where it was
  pub away : (w : ℕ) → occurs w a ≡ false → occurs w b ≡ false → (y : ℕ) → occurs w (f y) ≡ occurs w (instance u (f y))
  away w h k y = occurs_same w (λ r. occurs w (u r)) (f y) each ∙ sym (occurs_instance w u (f y))
    where
      each : (r : ℕ) → nat_eq w r ≡ occurs w (u r)
      each r = go (nat_eq w r) refl
        where
          go : (c : Bool) → nat_eq w r ≡ c → c ≡ occurs w (u r)
          go true e = sym (ap (λ z. occurs w (u z)) (sym (same_var w r e)) ∙ ap (occurs w) (stays a b u m w h k) ∙ same_test w)
          go false e = sym (none_new a b u m w r h k (refuted (nat_eq r w) (λ i. clash (nat_eq w r) (ap (nat_eq w) (same_var r w i) ∙ same_test w) e)))

  -- what gets a variable of the side is one
  pub inside : (w : ℕ) → (occurs w a || occurs w b) ≡ true → (r : ℕ) → occurs w (u r) ≡ true → (occurs r a ≡ true) ⊎ (occurs r b ≡ true)
  inside w h r o = go (decide (occurs r a)) (decide (occurs r b))
    where
      go : (occurs r a ≡ true) ⊎ (occurs r a ≡ false) → (occurs r b ≡ true) ⊎ (occurs r b ≡ false) → (occurs r a ≡ true) ⊎ (occurs r b ≡ true)
      go (inl i) j = inl i
      go (inr i) (inl j) = inr j
      go (inr i) (inr j) =
          let e : w ≡ r = same_var w r (sym (ap (occurs w) (stays a b u m r i j)) ∙ o) in
          absurd (clash (occurs w a || occurs w b) h (ap (λ z. occurs z a || occurs z b) e ∙ or_false (occurs r a) (occurs r b) i j))

  gets : (w r : ℕ) (c : Tree) → occurs r c ≡ true → occurs w (u r) ≡ true → occurs w (instance u c) ≡ true
  gets w r c h k = occurs_instance w u c ∙ any_at (λ v. occurs w (u v)) r c h k

  -- and then both side have one
  pub sources : (w : ℕ) → (occurs w a || occurs w b) ≡ true → (r : ℕ) → occurs w (u r) ≡ true
      → (any_var (λ v. occurs w (u v)) a ≡ true) × (any_var (λ v. occurs w (u v)) b ≡ true)
  sources w h r o = go (inside w h r o)
    where
      go : (occurs r a ≡ true) ⊎ (occurs r b ≡ true) → (any_var (λ v. occurs w (u v)) a ≡ true) × (any_var (λ v. occurs w (u v)) b ≡ true)
      go (inl i) =
          (any_at (λ v. occurs w (u v)) r a i o, sym (occurs_instance w u b) ∙ sym (ap (occurs w) m.0) ∙ gets w r a i o)
      go (inr i) =
          (sym (occurs_instance w u a) ∙ ap (occurs w) m.0 ∙ gets w r b i o, any_at (λ v. occurs w (u v)) r b i o)

  -- the instances that get w are those with a variable of the side that gets it
  pub whole : (w : ℕ) → (occurs w a || occurs w b) ≡ true → (y : ℕ) → (touch u f w a y || touch u f w b y) ≡ occurs w (instance u (f y))
  whole w h y = same_bool (touch u f w a y || touch u f w b y) (occurs w (instance u (f y))) (λ i. elim (or_cases (touch u f w a y) (touch u f w b y) i) [ inl j ↦ forth a j | inr j ↦ forth b j ]) back
    where
      forth : (c : Tree) → touch u f w c y ≡ true → occurs w (instance u (f y)) ≡ true
      forth c i =
          let r = any_some (λ v. occurs w (u v) && occurs v (f y)) c i in
          let k = and_both (occurs w (u r.0)) (occurs r.0 (f y)) r.2 in
          gets w r.0 (f y) k.1 k.0

      back : occurs w (instance u (f y)) ≡ true → (touch u f w a y || touch u f w b y) ≡ true
      back i =
          let r = any_some (λ v. occurs w (u v)) (f y) (sym (occurs_instance w u (f y)) ∙ i) in
          let k = and_made (occurs w (u r.0)) (occurs r.0 (f y)) r.2 r.1 in
          elim (inside w h r.0 r.2) [
            | inl j ↦ or_left (touch u f w a y) (touch u f w b y) (any_at (λ v. occurs w (u v) && occurs v (f y)) r.0 a j k)
            | inr j ↦ or_right (touch u f w a y) (touch u f w b y) (any_at (λ v. occurs w (u v) && occurs v (f y)) r.0 b j k)
          ]

-- the side are those of clause variables: each variable of a side stands in the instance of one of va, or vb
abbrev pub From : (ℕ → Tree) → ℕ → Tree → Type 0
From f v a = (r : ℕ) → occurs r a ≡ true → (z : ℕ) × (has v z ≡ true) × (occurs r (f z) ≡ true)

-- what a list of sets has to have for a side
abbrev pub Fills : (ℕ → Tree) → (ℕ → Tree) → Bool → Tree → Type 0
Fills u f plain c = (w : ℕ) (ss : List ℕ) → ((v : ℕ) → occurs v c ≡ true → In (λ s. Is s (λ y. occurs v (f y))) ss)
    → any_var (λ v. occurs w (u v)) c ≡ true → In (λ s. Is s (λ y. touch u f w c y)) (side plain ss)

module _ (f u : ℕ → Tree) (a b : Tree) (m : MostGeneral a b u) (sh : Share) (va vb : ℕ) (fa : From f va a) (fb : From f vb b) (cover : CoversShare sh f) where
  -- what gets a variable of the side shares a member with them
  in_met : (w y : ℕ) → (occurs w a || occurs w b) ≡ true → occurs w (instance u (f y)) ≡ true → has (union (met sh va) (met sh vb)) y ≡ true
  in_met w y h o =
      let r = any_some (λ v. occurs w (u v)) (f y) (sym (occurs_instance w u (f y)) ∙ o) in
      has-union (met sh va) (met sh vb) y ∙ go r.0 r.1 (inside f u a b m w h r.0 r.2)
    where
      go : (r : ℕ) → occurs r (f y) ≡ true → (occurs r a ≡ true) ⊎ (occurs r b ≡ true) → (has (met sh va) y || has (met sh vb) y) ≡ true
      go r i (inl j) = let z = fa r j in or_left (has (met sh va) y) (has (met sh vb) y) (met-has sh va (λ y. occurs r (f y)) z.0 y (cover r y i) z.1 z.2 i)
      go r i (inr j) = let z = fb r j in or_right (has (met sh va) y) (has (met sh vb) y) (met-has sh vb (λ y. occurs r (f y)) z.0 y (cover r y i) z.1 z.2 i)

  wide_covers : CoversShare (norm (record { sets = sh.sets; any = union sh.any (union (met sh va) (met sh vb)) })) (λ x. instance u (f x))
  wide_covers w x o =
      Member-norm (record { sets = sh.sets; any = union sh.any (union (met sh va) (met sh vb)) }) (λ y. occurs w (instance u (f y))) (go (decide (occurs w a || occurs w b)))
    where
      up : (y : ℕ) → (has sh.any y ≡ true) ⊎ (has (union (met sh va) (met sh vb)) y ≡ true) → has (union sh.any (union (met sh va) (met sh vb))) y ≡ true
      up y (inl h) = has-union sh.any (union (met sh va) (met sh vb)) y ∙ or_left (has sh.any y) (has (union (met sh va) (met sh vb)) y) h
      up y (inr h) = has-union sh.any (union (met sh va) (met sh vb)) y ∙ or_right (has sh.any y) (has (union (met sh va) (met sh vb)) y) h

      more_any : (p : ℕ → Bool) → Member sh p → Member (record { sets = sh.sets; any = union sh.any (union (met sh va) (met sh vb)) }) p
      more_any p (inl h) = inl h
      more_any p (inr h) = inr (λ y k. up y (inl (h y k)))

      go : ((occurs w a || occurs w b) ≡ true) ⊎ ((occurs w a || occurs w b) ≡ false) → Member (record { sets = sh.sets; any = union sh.any (union (met sh va) (met sh vb)) }) (λ y. occurs w (instance u (f y)))
      go (inl h) = inr (λ y k. up y (inr (in_met w y h k)))
      go (inr h) =
          let n = or_none (occurs w a) (occurs w b) h in
          Member-same (record { sets = sh.sets; any = union sh.any (union (met sh va) (met sh vb)) }) (λ y. occurs w (f y)) (λ y. occurs w (instance u (f y))) (away f u a b m w n.0 n.1)
          (more_any (λ y. occurs w (f y)) (cover w x (away f u a b m w n.0 n.1 x ∙ o)))

  module _ (plain : Bool) (ia : (r z : ℕ) → has va z ≡ true → occurs r (f z) ≡ true → occurs r a ≡ true) (ib : (r z : ℕ) → has vb z ≡ true → occurs r (f z) ≡ true → occurs r b ≡ true)
      (narrow : meets (union (met sh va) (met sh vb)) sh.any ≡ false) (pa : Fills u f plain a) (pb : Fills u f plain b) where
    -- a variable of a side has a set that meets it
    has_set : (v r : ℕ) → ((y : ℕ) → has (met sh v) y ≡ true → has (union (met sh va) (met sh vb)) y ≡ true) → (z : ℕ) → has v z ≡ true → occurs r (f z) ≡ true
        → In (λ s. Is s (λ y. occurs r (f y))) (filter (λ s. meets s v) sh.sets)
    has_set v r up z h k = go (cover r z k)
      where
        go : Member sh (λ y. occurs r (f y)) → In (λ s. Is s (λ y. occurs r (f y))) (filter (λ s. meets s v) sh.sets)
        go (inl i) = In-filter (λ s. Is s (λ y. occurs r (f y))) (λ s. meets s v) sh.sets (λ s j. meets-at s v z (j z ∙ k) h) i
        go (inr i) =
            absurd (clash (meets (union (met sh va) (met sh vb)) sh.any)
            (meets-at (union (met sh va) (met sh vb)) sh.any z (up z (met-has sh v (λ y. occurs r (f y)) z z (inr i) h k k)) (i z k)) narrow)

    set_a : (r : ℕ) → occurs r a ≡ true → In (λ s. Is s (λ y. occurs r (f y))) (filter (λ s. meets s va) sh.sets)
    set_a r h = let z = fa r h in has_set va r (λ y k. has-union (met sh va) (met sh vb) y ∙ or_left (has (met sh va) y) (has (met sh vb) y) k) z.0 z.1 z.2

    set_b : (r : ℕ) → occurs r b ≡ true → In (λ s. Is s (λ y. occurs r (f y))) (filter (λ s. meets s vb) sh.sets)
    set_b r h = let z = fb r h in has_set vb r (λ y k. has-union (met sh va) (met sh vb) y ∙ or_right (has (met sh va) y) (has (met sh vb) y) k) z.0 z.1 z.2

    narrow_covers : CoversShare (norm (record {
      sets = join_sets (pairs (side plain (filter (λ s. meets s va) sh.sets)) (side plain (filter (λ s. meets s vb) sh.sets))) (filter (λ s. not (meets s (union va vb))) sh.sets);
      any = sh.any;
    })) (λ x. instance u (f x))
    narrow_covers w x o = Member-norm (record {
      sets = join_sets (pairs (side plain (filter (λ s. meets s va) sh.sets)) (side plain (filter (λ s. meets s vb) sh.sets))) (filter (λ s. not (meets s (union va vb))) sh.sets);
      any = sh.any;
    }) (λ y. occurs w (instance u (f y))) (go (decide (occurs w a || occurs w b)))
      where
        new : Share
        new = record {
          sets = join_sets (pairs (side plain (filter (λ s. meets s va) sh.sets)) (side plain (filter (λ s. meets s vb) sh.sets))) (filter (λ s. not (meets s (union va vb))) sh.sets);
          any = sh.any;
        }

        kept : (p : ℕ → Bool) → ((z : ℕ) → has va z ≡ true → p z ≡ true → ⊥) → ((z : ℕ) → has vb z ≡ true → p z ≡ true → ⊥) → Member sh p → Member (record {
          sets = join_sets (pairs (side plain (filter (λ s. meets s va) sh.sets)) (side plain (filter (λ s. meets s vb) sh.sets))) (filter (λ s. not (meets s (union va vb))) sh.sets);
          any = sh.any;
        }) p
        kept p na nb (inl i) =
            inl (In-join_right (λ s. Is s p) (pairs (side plain (filter (λ s. meets s va) sh.sets)) (side plain (filter (λ s. meets s vb) sh.sets))) (filter (λ s. not (meets s (union va vb))) sh.sets)
            (In-filter (λ s. Is s p) (λ s. not (meets s (union va vb))) sh.sets
            (λ s j. ap not (meets-none s (union va vb) (λ z k l. elim (or_cases (has va z) (has vb z) (sym (has-union va vb z) ∙ l)) [ inl i ↦ na z i (sym (j z) ∙ k) | inr i ↦ nb z i (sym (j z) ∙ k) ]))) i))
        kept p na nb (inr i) = inr i

        go : ((occurs w a || occurs w b) ≡ true) ⊎ ((occurs w a || occurs w b) ≡ false) → Member (record {
          sets = join_sets (pairs (side plain (filter (λ s. meets s va) sh.sets)) (side plain (filter (λ s. meets s vb) sh.sets))) (filter (λ s. not (meets s (union va vb))) sh.sets);
          any = sh.any;
        }) (λ y. occurs w (instance u (f y)))
        go (inl h) =
            let r = any_some (λ v. occurs w (u v)) (f x) (sym (occurs_instance w u (f x)) ∙ o) in
            let g = sources f u a b m w h r.0 r.2 in
            inl (In-join_left (λ s. Is s (λ y. occurs w (instance u (f y)))) (pairs (side plain (filter (λ s. meets s va) sh.sets)) (side plain (filter (λ s. meets s vb) sh.sets))) (filter (λ s. not (meets s (union va vb))) sh.sets)
            (In-weaken (λ s. Is s (λ y. touch u f w a y || touch u f w b y)) (λ s. Is s (λ y. occurs w (instance u (f y)))) (pairs (side plain (filter (λ s. meets s va) sh.sets)) (side plain (filter (λ s. meets s vb) sh.sets)))
            (λ s i. Is-same s (λ y. touch u f w a y || touch u f w b y) (λ y. occurs w (instance u (f y))) (whole f u a b m w h) i)
            (In-pairs (λ y. touch u f w a y) (λ y. touch u f w b y) (side plain (filter (λ s. meets s va) sh.sets)) (side plain (filter (λ s. meets s vb) sh.sets))
            (pa w (filter (λ s. meets s va) sh.sets) set_a g.0) (pb w (filter (λ s. meets s vb) sh.sets) set_b g.1))))
        go (inr h) =
            let n = or_none (occurs w a) (occurs w b) h in
            Member-same (record {
              sets = join_sets (pairs (side plain (filter (λ s. meets s va) sh.sets)) (side plain (filter (λ s. meets s vb) sh.sets))) (filter (λ s. not (meets s (union va vb))) sh.sets);
              any = sh.any;
            }) (λ y. occurs w (f y)) (λ y. occurs w (instance u (f y))) (away f u a b m w n.0 n.1)
            (kept (λ y. occurs w (f y)) (λ z i j. clash (occurs w a) (ia w z i j) n.0) (λ z i j. clash (occurs w b) (ib w z i j) n.1) (cover w x (away f u a b m w n.0 n.1 x ∙ o)))

-- ---- what fills a side

fills_closure : (f u : ℕ → Tree) (c : Tree) → Fills u f false c
fills_closure f u c = λ w ss h k. fill u f w ss c (λ v o i. h v o) k

fills_var : (f u : ℕ → Tree) (p : ℕ) → Fills u f true (var p)
fills_var f u p = λ w ss h k. fill_var u f w p ss (h p (same_test p)) k

fills_other : (f u : ℕ → Tree) (p : ℕ) (b : Tree) → MostGeneral (var p) b u → Fills u f true b
fills_other f u p (var q) m = fills_var f u q
fills_other f u p (int z) m = λ w ss h k. absurd (false≢true k)
fills_other f u p (atom c) m = λ w ss h k. absurd (false≢true k)
fills_other f u p (node c ts) m = λ w ss h k. fill_left u f w ss (node c ts) h (one_left p (node c ts) u m (not_there p (node c ts) u m (λ e. cc)) (λ z e. cc)) k

fills_both : (f u : ℕ → Tree) (a b : Tree) → MostGeneral a b u → IsVar a → Fills u f true a × Fills u f true b
fills_both f u a b m v =
    let P : Tree → Type 0 = λ z. MostGeneral z b u → Fills u f true z × Fills u f true b in
    subst P (sym v.1) (λ n. (fills_var f u v.0, fills_other f u v.0 b n)) m

fills_plain : (f u : ℕ → Tree) (a b : Tree) → MostGeneral a b u → IsVar a ⊎ IsVar b → Fills u f true a × Fills u f true b
fills_plain f u a b m (inl v) = fills_both f u a b m v
fills_plain f u a b m (inr v) = let r = fills_both f u b a (swapped a b u m) v in (r.1, r.0)

-- ---- what stays free

still : (a b : Tree) (u : ℕ → Tree) → MostGeneral a b u → IsVar a → (r : ℕ) → occurs r a ≡ false → IsVar (u r)
still a b u m v r h =
    let P : Tree → Type 0 = λ z. MostGeneral z b u → occurs r z ≡ false → IsVar (u r) in
    subst P (sym v.1) (λ n k. still_var v.0 b u n r k) m h

stills : (a b : Tree) (u : ℕ → Tree) → MostGeneral a b u → IsVar a → IsVar b → (r : ℕ) → IsVar (u r)
stills a b u m v v2 r =
    let P : Tree → Type 0 = λ z. MostGeneral z b u → IsVar (u r) in
    let Q : Tree → Type 0 = λ z. MostGeneral (var v.0) z u → IsVar (u r) in
    subst P (sym v.1) (subst Q (sym v2.1) (λ n. still_vars v.0 v2.0 u n r)) m

module _ (f u : ℕ → Tree) (a b : Tree) (m : MostGeneral a b u) (sh : Share) (va vb fr : ℕ) (fa : From f va a) (fb : From f vb b) (cover : CoversShare sh f) (free : CoversFree fr f) where
  apart_from : (v : ℕ) (c : Tree) → From f v c → (y r : ℕ) → f y ≡ var r → has (met sh v) y ≡ false → occurs r c ≡ false
  apart_from v c fc y r e h = refuted (occurs r c) (λ k.
      let z = fc r k in
      let o : occurs r (f y) ≡ true = ap (occurs r) e ∙ same_test r in
      clash (has (met sh v) y) (met-has sh v (λ y. occurs r (f y)) z.0 y (cover r y o) z.1 z.2 o) h)

  free_covers : (xf tf : Bool) → (xf ≡ true → IsVar a) → (tf ≡ true → IsVar b) → (y : ℕ) → has (free_after xf tf fr (met sh va) (met sh vb)) y ≡ true → IsVar (instance u (f y))
  free_covers true true h k y o = let r = free y o in subst IsVar (sym (ap (instance u) r.1)) (stills a b u m (h refl) (k refl) r.0)
  free_covers true false h k y o =
      let p = without_parts fr (met sh va) y o in
      let r = free y p.0 in
      subst IsVar (sym (ap (instance u) r.1)) (still a b u m (h refl) r.0 (apart_from va a fa y r.0 r.1 p.1))
  free_covers false true h k y o =
      let p = without_parts fr (met sh vb) y o in
      let r = free y p.0 in
      subst IsVar (sym (ap (instance u) r.1)) (still b a u (swapped a b u m) (k refl) r.0 (apart_from vb b fb y r.0 r.1 p.1))
  free_covers false false h k y o =
      let p = without_parts fr (union (met sh va) (met sh vb)) y o in
      let r = free y p.0 in
      let n = or_none (has (met sh va) y) (has (met sh vb) y) (sym (has-union (met sh va) (met sh vb) y) ∙ p.1) in
      (r.0, ap (instance u) r.1 ∙ stays a b u m r.0 (apart_from va a fa y r.0 r.1 n.0) (apart_from vb b fb y r.0 r.1 n.1))

-- ---- after_unify

from_var : (f : ℕ → Tree) (x : ℕ) → From f (just x) (f x)
from_var f x = λ r h. (x, has-just x x ∙ same_test x, h)

into_var : (f : ℕ → Tree) (x r z : ℕ) → has (just x) z ≡ true → occurs r (f z) ≡ true → occurs r (f x) ≡ true
into_var f x r z h k = ap (λ y. occurs r (f y)) (sym (same_var z x (sym (has-just x z) ∙ h))) ∙ k

pub from_tree : (f : ℕ → Tree) (t : Tree) → From f (var_set t) (instance f t)
from_tree f t = λ r h. let k = any_some (λ v. occurs r (f v)) t (sym (occurs_instance r f t) ∙ h) in (k.0, has-var_set t k.0 ∙ k.1, k.2)

pub into_tree : (f : ℕ → Tree) (t : Tree) (r z : ℕ) → has (var_set t) z ≡ true → occurs r (f z) ≡ true → occurs r (instance f t) ≡ true
into_tree f t r z h k = occurs_instance r f t ∙ any_at (λ v. occurs r (f v)) z t (sym (has-var_set t z) ∙ h) k

pub free_tree : (f : ℕ → Tree) (fr : ℕ) (t : Tree) → CoversFree fr f → is_free fr t ≡ true → IsVar (instance f t)
free_tree f fr (var z) c h = c z h
free_tree f fr (int z) c h = absurd (false≢true h)
free_tree f fr (atom z) c h = absurd (false≢true h)
free_tree f fr (node z ts) c h = absurd (false≢true h)

-- one side is ground: the other becomes so
pub ground_side : (s : State) (f u : ℕ → Tree) (a b : Tree) (v : ℕ) → MostGeneral a b u → ((r : ℕ) → occurs r a ≡ false) → From f v b
    → ((r z : ℕ) → has v z ≡ true → occurs r (f z) ≡ true → occurs r b ≡ true) → Covers s f → Covers (ground s v) (λ x. instance u (f x))
ground_side s f u a b v m h fb ib c =
    ground-covers s v f u (λ r. occurs r b)
    (λ r w k. refuted (occurs w (u r)) (λ o.
    let i : any_var (λ v. occurs w (u v)) a ≡ true = sym (occurs_instance w u a) ∙ ap (occurs w) m.0 ∙ occurs_instance w u b ∙ any_at (λ v. occurs w (u v)) r b k o in
    let j = any_some (λ v. occurs w (u v)) a i in
    clash (occurs j.0 a) j.1 (h j.0)))
    (λ r k. stays a b u m r (h r) k) fb ib c

module _ (f u : ℕ → Tree) (sh : Share) (fr x : ℕ) (t : Tree) (m : MostGeneral (f x) (instance f t) u) (c : Covers (Reachable sh fr) f) where
  ground_left : has (nonground sh) x ≡ false → (r : ℕ) → occurs r (f x) ≡ false
  ground_left h r = refuted (occurs r (f x)) (λ k. clash (has (nonground sh) x) (Member-nonground sh (λ y. occurs r (f y)) (c.0 r x k) x k) h)

  ground_right : meets (nonground sh) (var_set t) ≡ false → (r : ℕ) → occurs r (instance f t) ≡ false
  ground_right h r = refuted (occurs r (instance f t)) (λ k.
      let z = from_tree f t r k in
      clash (meets (nonground sh) (var_set t)) (meets-at (nonground sh) (var_set t) z.0 (Member-nonground sh (λ y. occurs r (f y)) (c.0 r z.0 z.2) z.0 z.2) z.1) h)

  plain_fills : (p : Bool) → (has fr x || is_free fr t) ≡ p → Fills u f p (f x) × Fills u f p (instance f t)
  plain_fills false e = (fills_closure f u (f x), fills_closure f u (instance f t))
  plain_fills true e =
      fills_plain f u (f x) (instance f t) m (elim (or_cases (has fr x) (is_free fr t) e) [ inl k ↦ inl (c.1 x k) | inr k ↦ inr (free_tree f fr t c.1 k) ])

  share_covers : CoversShare (unify_share (has fr x || is_free fr t) sh (just x) (var_set t)) (λ y. instance u (f y))
  share_covers = go (has fr x || is_free fr t) refl
    where
      go : (p : Bool) → (has fr x || is_free fr t) ≡ p → CoversShare (unify_share p sh (just x) (var_set t)) (λ y. instance u (f y))
      go p e = pick (is_wide p sh (just x) (var_set t)) refl
        where
          pick : (b : Bool) → is_wide p sh (just x) (var_set t) ≡ b
              → CoversShare (cond b
              (norm (record { sets = sh.sets; any = union sh.any (union (met sh (just x)) (met sh (var_set t))) }))
              (norm (record {
                sets = join_sets (pairs (side p (filter (λ s. meets s (just x)) sh.sets)) (side p (filter (λ s. meets s (var_set t)) sh.sets))) (filter (λ s. not (meets s (union (just x) (var_set t)))) sh.sets);
                any = sh.any;
              }))) (λ y. instance u (f y))
          pick true k = wide_covers f u (f x) (instance f t) m sh (just x) (var_set t) (from_var f x) (from_tree f t) c.0
          pick false k =
              narrow_covers f u (f x) (instance f t) m sh (just x) (var_set t) (from_var f x) (from_tree f t) c.0 p (into_var f x) (into_tree f t)
              (or_none (meets (union (met sh (just x)) (met sh (var_set t))) sh.any) (not p && (too_many (closure (filter (λ s. meets s (just x)) sh.sets)) || too_many (closure (filter (λ s. meets s (var_set t)) sh.sets)))) k).0
              (plain_fills p e).0 (plain_fills p e).1

  sides_cover : Covers (unify_sides sh fr x t) (λ y. instance u (f y))
  sides_cover = (
    share_covers,
    λ y o.
        free_covers f u (f x) (instance f t) m sh (just x) (var_set t) fr (from_var f x) (from_tree f t) c.0 c.1 (has fr x) (is_free fr t) (c.1 x) (free_tree f fr t c.1) y
        (both_left (free_after (has fr x) (is_free fr t) fr (met sh (just x)) (met sh (var_set t))) (nonground (unify_share (has fr x || is_free fr t) sh (just x) (var_set t))) y o),
  )

  state_covers : Covers (after_unify (Reachable sh fr) x t) (λ y. instance u (f y))
  state_covers = go (has (nonground sh) x) refl
    where
      go : (b : Bool) → has (nonground sh) x ≡ b → Covers (cond (not b) (ground (Reachable sh fr) (var_set t))
          (cond (not (meets (nonground sh) (var_set t))) (ground (Reachable sh fr) (just x)) (unify_sides sh fr x t))) (λ y. instance u (f y))
      go false e = ground_side (Reachable sh fr) f u (f x) (instance f t) (var_set t) m (ground_left e) (from_tree f t) (into_tree f t) c
      go true e = pick (meets (nonground sh) (var_set t)) refl
        where
          pick : (d : Bool) → meets (nonground sh) (var_set t) ≡ d → Covers (cond (not d) (ground (Reachable sh fr) (just x)) (unify_sides sh fr x t)) (λ y. instance u (f y))
          pick false k = ground_side (Reachable sh fr) f u (instance f t) (f x) (just x) (swapped (f x) (instance f t) u m) (ground_right k) (from_var f x) (into_var f x) c
          pick true k = sides_cover

pub after_unify-covers : (s : State) (x : ℕ) (t : Tree) (f u : ℕ → Tree) → Covers s f → MostGeneral (f x) (instance f t) u → Covers (after_unify s x t) (λ y. instance u (f y))
after_unify-covers Unreachable x t f u c m = absurd c
after_unify-covers (Reachable sh fr) x t f u c m = state_covers f u sh fr x t m c
