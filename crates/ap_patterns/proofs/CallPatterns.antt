-- Call patterns cover.
use Rattle.std.proofs.Common.{◌≡◌, ℕ, suc, ◌<◌, ◌⊎◌, inl, inr, Bool, true, false, ◌||◌, nat_eq, cond, List, [], map, refl, ap, sym, ◌∙◌, arith}
use Rattle.std.proofs.lemmas.Bool.{or_left}
use Rattle.ap_term.proofs.Facts.{same_bool, below-other}
use Rattle.ap_term.specs.Tree.{Tree, Trees, none, more}
use Rattle.ap_term.specs.Substitution.{instance}
use Rattle.ap_term.specs.Vars.{occurs}
use Rattle.ap_sharing.specs.VarSet.{has, empty, just, meets}
use Rattle.ap_sharing.specs.Sets.{In, Is, sets_of}
use Rattle.ap_sharing.specs.Share.{Member, nonground}
use Rattle.ap_sharing.specs.Covering.{CoversShare}
use Rattle.ap_absunify.specs.TermSets.{var_set}
use Rattle.ap_absunify.specs.declared.states.State.{State}
use Rattle.ap_absunify.specs.declared.states.State.TheVariants.{Unreachable, Reachable}
use Rattle.ap_absunify.specs.State.{Covers}
use Rattle.ap_absunify.specs.AfterUnify.{is_free}
use Rattle.ap_patterns.specs.Places.{arguments, argument, argument_sets, places, free_places, call_share, call_pattern}
use Rattle.ap_absunify.proofs.AfterUnify.{from_tree, into_tree, free_tree}
use Rattle.ap_absunify.proofs.Vars.{or_cases, or_false, decide}
use Rattle.ap_sharing.proofs.Covers.{Member-norm}
use Rattle.ap_sharing.proofs.Elements.{clash, has-empty, has-union, has-just, meets-at, meets-none, both_left}
use Rattle.ap_sharing.proofs.Lists.{In-map, In-join_right}
use Rattle.ap_term.proofs.Solutions.{same_var}

pub In-sets_of : (P : ℕ → Type 0) (ss : List ℕ) → In P ss → In P (sets_of ss)
In-sets_of P ss h = In-join_right P [] ss h

pick_empty : (b : Bool) (i j : ℕ) → nat_eq j i ≡ false → has (cond b (just i) empty) j ≡ false
pick_empty true i j h = has-just i j ∙ h
pick_empty false i j h = has-empty j

places_below : (i s : ℕ) (ts : Trees) (j : ℕ) → j < i → has (places i s (argument_sets ts)) j ≡ false
places_below i s none j h = has-empty j
places_below i s (more t ts) j h =
    has-union (cond (meets s (var_set t)) (just i) empty) (places (suc i) s (argument_sets ts)) j
    ∙ or_false (has (cond (meets s (var_set t)) (just i) empty) j) (has (places (suc i) s (argument_sets ts)) j) (pick_empty (meets s (var_set t)) i j (below-other j i h)) (places_below (suc i) s ts j (omega arith))

pub has-places : (i s : ℕ) (ts : Trees) (j : ℕ) → has (places i s (argument_sets ts)) j ≡ meets s (var_set (argument i ts j))
has-places i s none j = has-empty j ∙ sym (meets-none s empty (λ x a b. clash (has empty x) b (has-empty x)))
has-places i s (more t ts) j = has-union (cond (meets s (var_set t)) (just i) empty) (places (suc i) s (argument_sets ts)) j ∙ go (nat_eq j i) refl (has-places (suc i) s ts j)
  where
    go : (b : Bool) → nat_eq j i ≡ b → has (places (suc i) s (argument_sets ts)) j ≡ meets s (var_set (argument (suc i) ts j))
        → (has (cond (meets s (var_set t)) (just i) empty) j || has (places (suc i) s (argument_sets ts)) j) ≡ meets s (var_set (cond b t (argument (suc i) ts j)))
    go true e ih = here (meets s (var_set t)) (places_below (suc i) s ts j (let q : j ≡ i = same_var j i e in omega arith))
      where
        here : (c : Bool) → has (places (suc i) s (argument_sets ts)) j ≡ false → (has (cond c (just i) empty) j || has (places (suc i) s (argument_sets ts)) j) ≡ c
        here true n = or_left (has (just i) j) (has (places (suc i) s (argument_sets ts)) j) (has-just i j ∙ e)
        here false n = or_false (has empty j) (has (places (suc i) s (argument_sets ts)) j) (has-empty j) n
    go false e ih = ap (λ c. c || has (places (suc i) s (argument_sets ts)) j) (pick_empty (meets s (var_set t)) i j e) ∙ ih

free_places_below : (i fr : ℕ) (ts : Trees) (j : ℕ) → j < i → has (free_places i fr ts) j ≡ false
free_places_below i fr none j h = has-empty j
free_places_below i fr (more t ts) j h =
    has-union (cond (is_free fr t) (just i) empty) (free_places (suc i) fr ts) j
    ∙ or_false (has (cond (is_free fr t) (just i) empty) j) (has (free_places (suc i) fr ts) j) (pick_empty (is_free fr t) i j (below-other j i h)) (free_places_below (suc i) fr ts j (omega arith))

has-free_places : (i fr : ℕ) (ts : Trees) (j : ℕ) → has (free_places i fr ts) j ≡ true → is_free fr (argument i ts j) ≡ true
has-free_places i fr none j h = absurd (clash (has empty j) h (has-empty j))
has-free_places i fr (more t ts) j h =
    go (nat_eq j i) refl (or_cases (has (cond (is_free fr t) (just i) empty) j) (has (free_places (suc i) fr ts) j) (sym (has-union (cond (is_free fr t) (just i) empty) (free_places (suc i) fr ts) j) ∙ h)) (has-free_places (suc i) fr ts j)
  where
    pick : (c : Bool) → has (cond c (just i) empty) j ≡ true → c ≡ true
    pick true k = refl
    pick false k = absurd (clash (has empty j) k (has-empty j))

    go : (b : Bool) → nat_eq j i ≡ b → (has (cond (is_free fr t) (just i) empty) j ≡ true) ⊎ (has (free_places (suc i) fr ts) j ≡ true)
        → (has (free_places (suc i) fr ts) j ≡ true → is_free fr (argument (suc i) ts j) ≡ true) → is_free fr (cond b t (argument (suc i) ts j)) ≡ true
    go true e (inl k) ih = pick (is_free fr t) k
    go true e (inr k) ih = absurd (clash (has (free_places (suc i) fr ts) j) k (free_places_below (suc i) fr ts j (let q : j ≡ i = same_var j i e in omega arith)))
    go false e (inl k) ih = absurd (clash (has (cond (is_free fr t) (just i) empty) j) k (pick_empty (is_free fr t) i j e))
    go false e (inr k) ih = ih k

-- a set of a run-time variable has the places of the arguments whose instance has it
pub Is-places : (f : ℕ → Tree) (ts : Trees) (w s : ℕ) → Is s (λ y. occurs w (f y)) → Is (places 1 s (argument_sets ts)) (λ j. occurs w (instance f (argument 1 ts j)))
Is-places f ts w s h = λ j. has-places 1 s ts j ∙ same_bool (meets s (var_set (argument 1 ts j))) (occurs w (instance f (argument 1 ts j))) (forth j) (back j)
  where
    back : (j : ℕ) → occurs w (instance f (argument 1 ts j)) ≡ true → meets s (var_set (argument 1 ts j)) ≡ true
    back j o = let z = from_tree f (argument 1 ts j) w o in meets-at s (var_set (argument 1 ts j)) z.0 (h z.0 ∙ z.2) z.1

    forth : (j : ℕ) → meets s (var_set (argument 1 ts j)) ≡ true → occurs w (instance f (argument 1 ts j)) ≡ true
    forth j o = go (decide (occurs w (instance f (argument 1 ts j))))
      where
        go : (occurs w (instance f (argument 1 ts j)) ≡ true) ⊎ (occurs w (instance f (argument 1 ts j)) ≡ false) → occurs w (instance f (argument 1 ts j)) ≡ true
        go (inl k) = k
        go (inr k) =
            absurd (clash (meets s (var_set (argument 1 ts j))) o (meets-none s (var_set (argument 1 ts j)) (λ z a b.
            clash (occurs w (instance f (argument 1 ts j))) (into_tree f (argument 1 ts j) w z b (sym (h z) ∙ a)) k)))

pub call_pattern-covers : (s : State) (goal : Tree) (f : ℕ → Tree) → Covers s f → Covers (call_pattern s goal) (λ j. instance f (argument 1 (arguments goal) j))
call_pattern-covers Unreachable goal f c = absurd c
call_pattern-covers (Reachable sh fr) goal f c =
    (share, λ j k. free_tree f fr (argument 1 ts j) c.1 (has-free_places 1 fr ts j (both_left (free_places 1 fr ts) (nonground (call_share sh (argument_sets ts))) j k)))
  where
    ts : Trees
    ts = arguments goal

    go : (w : ℕ) → Member sh (λ y. occurs w (f y))
        → Member (record { sets = sets_of (map (λ s. places 1 s (argument_sets (arguments goal))) sh.sets); any = places 1 sh.any (argument_sets (arguments goal)) }) (λ j. occurs w (instance f (argument 1 (arguments goal) j)))
    go w (inl h) =
        inl (In-sets_of (λ s. Is s (λ j. occurs w (instance f (argument 1 (arguments goal) j)))) (map (λ s. places 1 s (argument_sets (arguments goal))) sh.sets)
        (In-map (λ s. Is s (λ y. occurs w (f y))) (λ s. Is s (λ j. occurs w (instance f (argument 1 (arguments goal) j)))) (λ s. places 1 s (argument_sets (arguments goal))) sh.sets (Is-places f (arguments goal) w) h))
    go w (inr h) = inr (λ i k.
        let z = from_tree f (argument 1 (arguments goal) i) w k in
        has-places 1 sh.any (arguments goal) i ∙ meets-at sh.any (var_set (argument 1 (arguments goal) i)) z.0 (h z.0 z.2) z.1)

    share : CoversShare (call_share sh (argument_sets (arguments goal))) (λ j. instance f (argument 1 (arguments goal) j))
    share w j o =
        let z = from_tree f (argument 1 (arguments goal) j) w o in
        Member-norm (record { sets = sets_of (map (λ s. places 1 s (argument_sets (arguments goal))) sh.sets); any = places 1 sh.any (argument_sets (arguments goal)) }) (λ j. occurs w (instance f (argument 1 (arguments goal) j))) (go w (c.0 w z.0 z.2))
