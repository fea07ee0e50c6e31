-- The state after a call covers.
use Rattle.std.proofs.Common.{◌≡◌, ℕ, suc, ◌≤◌, ◌⊎◌, inl, inr, Bool, true, false, not, ◌||◌, ◌&&◌, nat_eq, cond, List, [], ◌∷◌, refl, ap, sym, ◌∙◌, subst, arith}
use Rattle.std.proofs.lemmas.Bool.{false≢true, or_left, or_right}
use Rattle.std.specs.List.{filter}
use Rattle.ap_term.proofs.Facts.{same_bool}
use Rattle.ap_term.specs.Tree.{Tree, Trees, var, int, atom, node, none, more}
use Rattle.ap_term.specs.Substitution.{instance}
use Rattle.ap_term.specs.Vars.{occurs, occurs_all}
use Rattle.ap_sharing.specs.VarSet.{has, empty, union, without, meets, within}
use Rattle.ap_sharing.specs.Sets.{In, Is, listed, join_sets, all_of, closure, too_many}
use Rattle.ap_sharing.specs.Share.{Share, Member, nonground, norm, met, ground_share, is_member}
use Rattle.ap_sharing.specs.Covering.{CoversShare}
use Rattle.ap_freeness.specs.Free.{IsVar}
use Rattle.ap_absunify.specs.TermSets.{var_set, var_set_all}
use Rattle.ap_absunify.specs.declared.states.State.{State}
use Rattle.ap_absunify.specs.declared.states.State.TheVariants.{Unreachable, Reachable}
use Rattle.ap_absunify.specs.State.{Covers}
use Rattle.ap_absunify.specs.AfterUnify.{is_free}
use Rattle.ap_patterns.specs.Places.{arguments, argument, argument_sets, places}
use Rattle.ap_patterns.specs.AfterCall.{grounded, kept_free, is_wide_call, returned_share, returned_free, after_call, Answers}
use Rattle.ap_absunify.proofs.AfterUnify.{touch, fill, from_tree, into_tree}
use Rattle.ap_absunify.proofs.TermSets.{has-var_set}
use Rattle.ap_absunify.proofs.Vars.{or_cases, or_none, and_both, and_made, decide, refuted, any_var, any_var_all, occurs_instance, any_some, any_at, occurs_agree}
use Rattle.ap_patterns.proofs.CallPatterns.{Is-places}
use Rattle.ap_sharing.proofs.Covers.{Member-same, Member-nonground, Member-norm, met-has, Member-ground}
use Rattle.ap_sharing.proofs.Elements.{same_test, clash, has-empty, has-union, same_set, meets-at, meets-none, within-made, both_left, without_made, without_parts}
use Rattle.ap_sharing.proofs.Lists.{In-weaken, In-filter, In-join_left, In-join_right, In-all_of, Is-same}
use Rattle.ap_term.proofs.Copies.{instance_twice}
use Rattle.ap_term.proofs.Solutions.{same_var}

-- an argument that passes has a place
pub at_place : (p : ℕ → Bool) (i : ℕ) (ts : Trees) → any_var_all p ts ≡ true → (j : ℕ) × (any_var p (argument i ts j) ≡ true) × (i ≤ j)
at_place p i none h = absurd (false≢true h)
at_place p i (more t ts) h =
    elim (or_cases (any_var p t) (any_var_all p ts) h) [
      | inl k ↦ (i, ap (λ b. any_var p (cond b t (argument (suc i) ts i))) (same_test i) ∙ k, omega arith)
      | inr k ↦ (let r = at_place p (suc i) ts k in (r.0, ap (λ b. any_var p (cond b t (argument (suc i) ts r.0))) (later r.0 r.2) ∙ r.1, omega (arith, r.2)))
    ]
  where
    later : (j : ℕ) → suc i ≤ j → nat_eq j i ≡ false
    later j l = refuted (nat_eq j i) (λ e. let q : j ≡ i = same_var j i e in absurd (omega arith))

-- the variables of an argument are the goal's
pub of_argument : (x i : ℕ) (ts : Trees) (j : ℕ) → occurs x (argument i ts j) ≡ true → occurs_all x ts ≡ true
of_argument x i none j h = absurd (false≢true h)
of_argument x i (more t ts) j h = go (nat_eq j i) h (of_argument x (suc i) ts j)
  where
    go : (b : Bool) → occurs x (cond b t (argument (suc i) ts j)) ≡ true → (occurs x (argument (suc i) ts j) ≡ true → occurs_all x ts ≡ true) → (occurs x t || occurs_all x ts) ≡ true
    go true k ih = or_left (occurs x t) (occurs_all x ts) k
    go false k ih = or_right (occurs x t) (occurs_all x ts) (ih k)

-- what is grounded stands in an argument whose place is in no member
in_grounded : (i : ℕ) (success : Share) (ts : Trees) (z : ℕ) → has (grounded i success (argument_sets ts)) z ≡ true
    → (j : ℕ) × (occurs z (argument i ts j) ≡ true) × (has (nonground success) j ≡ false) × (i ≤ j)
in_grounded i success none z h = absurd (clash (has empty z) h (has-empty z))
in_grounded i success (more t ts) z h =
    go (or_cases (has (cond (not (has (nonground success) i)) (var_set t) empty) z) (has (grounded (suc i) success (argument_sets ts)) z) (sym (has-union (cond (not (has (nonground success) i)) (var_set t) empty) (grounded (suc i) success (argument_sets ts)) z) ∙ h))
    (in_grounded (suc i) success ts z)
  where
    pick : (c : Bool) → has (cond (not c) (var_set t) empty) z ≡ true → (c ≡ false) × (occurs z t ≡ true)
    pick true k = absurd (clash (has empty z) k (has-empty z))
    pick false k = (refl, sym (has-var_set t z) ∙ k)

    later : (j : ℕ) → suc i ≤ j → nat_eq j i ≡ false
    later j l = refuted (nat_eq j i) (λ e. let q : j ≡ i = same_var j i e in absurd (omega arith))

    go : (has (cond (not (has (nonground success) i)) (var_set t) empty) z ≡ true) ⊎ (has (grounded (suc i) success (argument_sets ts)) z ≡ true)
        → (has (grounded (suc i) success (argument_sets ts)) z ≡ true → (j : ℕ) × (occurs z (argument (suc i) ts j) ≡ true) × (has (nonground success) j ≡ false) × (suc i ≤ j))
        → (j : ℕ) × (occurs z (cond (nat_eq j i) t (argument (suc i) ts j)) ≡ true) × (has (nonground success) j ≡ false) × (i ≤ j)
    go (inl k) ih = let r = pick (has (nonground success) i) k in (i, ap (λ b. occurs z (cond b t (argument (suc i) ts i))) (same_test i) ∙ r.1, r.0, omega arith)
    go (inr k) ih = let r = ih k in (r.0, ap (λ b. occurs z (cond b t (argument (suc i) ts r.0))) (later r.0 r.3) ∙ r.1, r.2, omega (arith, r.3))

-- what is kept free is an argument that was free and is so in the success
in_kept : (i fr sfr : ℕ) (ts : Trees) (y : ℕ) → has (kept_free i fr sfr ts) y ≡ true → (j : ℕ) × (argument i ts j ≡ var y) × (has fr y ≡ true) × (has sfr j ≡ true) × (i ≤ j)
in_kept i fr sfr none y h = absurd (clash (has empty y) h (has-empty y))
in_kept i fr sfr (more t ts) y h =
    go (or_cases (has (cond (is_free fr t && has sfr i) (var_set t) empty) y) (has (kept_free (suc i) fr sfr ts) y) (sym (has-union (cond (is_free fr t && has sfr i) (var_set t) empty) (kept_free (suc i) fr sfr ts) y) ∙ h))
    (in_kept (suc i) fr sfr ts y)
  where
    pick : (c : Bool) → has (cond c (var_set t) empty) y ≡ true → (c ≡ true) × (occurs y t ≡ true)
    pick true k = (refl, sym (has-var_set t y) ∙ k)
    pick false k = absurd (clash (has empty y) k (has-empty y))

    one : (t : Tree) → is_free fr t ≡ true → occurs y t ≡ true → (t ≡ var y) × (has fr y ≡ true)
    one (var x) k o = let e : y ≡ x = same_var y x o in (ap var (sym e), ap (has fr) e ∙ k)
    one (int x) k o = absurd (false≢true k)
    one (atom x) k o = absurd (false≢true k)
    one (node x us) k o = absurd (false≢true k)

    later : (j : ℕ) → suc i ≤ j → nat_eq j i ≡ false
    later j l = refuted (nat_eq j i) (λ e. let q : j ≡ i = same_var j i e in absurd (omega arith))

    go : (has (cond (is_free fr t && has sfr i) (var_set t) empty) y ≡ true) ⊎ (has (kept_free (suc i) fr sfr ts) y ≡ true)
        → (has (kept_free (suc i) fr sfr ts) y ≡ true → (j : ℕ) × (argument (suc i) ts j ≡ var y) × (has fr y ≡ true) × (has sfr j ≡ true) × (suc i ≤ j))
        → (j : ℕ) × (cond (nat_eq j i) t (argument (suc i) ts j) ≡ var y) × (has fr y ≡ true) × (has sfr j ≡ true) × (i ≤ j)
    go (inl k) ih =
        let r = pick (is_free fr t && has sfr i) k in
        let b = and_both (is_free fr t) (has sfr i) r.0 in
        let o = one t b.0 r.1 in
        (i, ap (λ b. cond b t (argument (suc i) ts i)) (same_test i) ∙ o.0, o.1, b.1, omega arith)
    go (inr k) ih = let r = ih k in (r.0, ap (λ b. cond b t (argument (suc i) ts r.0)) (later r.0 r.4) ∙ r.1, r.2, r.3, omega (arith, r.4))

member-test : (s : ℕ) (sh : Share) (p : ℕ → Bool) → Is s p → Member sh p → is_member s sh ≡ true
member-test s sh p i (inl h) = or_left (listed s sh.sets) (within s sh.any) (go sh.sets h)
  where
    go : (ss : List ℕ) → In (λ r. Is r p) ss → listed s ss ≡ true
    go [] k = absurd k
    go (r ∷ ss) (inl k) = or_left (nat_eq s r) (listed s ss) (ap (nat_eq s) (sym (same_set s r (λ x. i x ∙ sym (k x)))) ∙ same_test s)
    go (r ∷ ss) (inr k) = or_right (nat_eq s r) (listed s ss) (go ss k)
member-test s sh p i (inr h) = or_right (listed s sh.sets) (within s sh.any) (within-made s sh.any (λ x k. h x (sym (i x) ∙ k)))

module _ (sh success : Share) (fr sfr : ℕ) (ts : Trees) (f k : ℕ → Tree) (c : Covers (Reachable sh fr) f)
    (d : Covers (Reachable success sfr) (λ j. instance k (instance f (argument 1 ts j)))) (an : Answers (instance f (node 0 ts)) f k) where
  -- a variable that gets one is in no grounded place
  not_grounded : (w r z : ℕ) → occurs w (k r) ≡ true → occurs r (f z) ≡ true → has (grounded 1 success (argument_sets ts)) z ≡ true → ⊥
  not_grounded w r z i o h =
      let g = in_grounded 1 success ts z h in
      let e : occurs w (instance k (instance f (argument 1 ts g.0))) ≡ true =
      occurs_instance w k (instance f (argument 1 ts g.0))
      ∙ any_at (λ v. occurs w (k v)) r (instance f (argument 1 ts g.0)) (occurs_instance r f (argument 1 ts g.0) ∙ any_at (λ v. occurs r (f v)) z (argument 1 ts g.0) g.1 o) i in
      clash (has (nonground success) g.0) (Member-nonground success (λ j. occurs w (instance k (instance f (argument 1 ts j)))) (d.0 w g.0 e) g.0 e) g.2

  -- and its set is a member still
  still_member : (w r y : ℕ) → occurs w (k r) ≡ true → occurs r (f y) ≡ true → Member (ground_share sh (grounded 1 success (argument_sets ts))) (λ y. occurs r (f y))
  still_member w r y i o =
      Member-ground sh (grounded 1 success (argument_sets ts)) (λ y. occurs r (f y)) (λ z h. refuted (occurs r (f z)) (λ j. not_grounded w r z i j h)) (c.0 r y o)

  goal_place : (r : ℕ) → occurs r (instance f (node 0 ts)) ≡ true → (z : ℕ) × (has (var_set_all ts) z ≡ true) × (occurs r (f z) ≡ true)
  goal_place r h = from_tree f (node 0 ts) r h

  goal_back : (r z : ℕ) → has (var_set_all ts) z ≡ true → occurs r (f z) ≡ true → occurs r (instance f (node 0 ts)) ≡ true
  goal_back r z h o = into_tree f (node 0 ts) r z h o

  -- where a variable of the goal gets w, all that get w are the goal's
  all_inside : (w : ℕ) → occurs w (instance k (instance f (node 0 ts))) ≡ true → (r y : ℕ) → occurs w (k r) ≡ true → occurs r (f y) ≡ true → occurs r (instance f (node 0 ts)) ≡ true
  all_inside w h r y i o = go (decide (occurs r (instance f (node 0 ts))))
    where
      go : (occurs r (instance f (node 0 ts)) ≡ true) ⊎ (occurs r (instance f (node 0 ts)) ≡ false) → occurs r (instance f (node 0 ts)) ≡ true
      go (inl j) = j
      go (inr j) =
          let e : w ≡ r = same_var w r (sym (ap (occurs w) (an.others r y o j)) ∙ i) in
          let g = any_some (λ v. occurs w (k v)) (instance f (node 0 ts)) (sym (occurs_instance w k (instance f (node 0 ts))) ∙ h) in
          absurd (clash (occurs w (f y)) (ap (λ z. occurs z (f y)) e ∙ o) (an.fresh g.0 w y g.1 g.2 (ap (λ z. occurs z (instance f (node 0 ts))) e ∙ j)))

  -- where none gets it, w is another variable, and stands where it stood
  outside : (w x : ℕ) → occurs w (instance k (instance f (node 0 ts))) ≡ false → occurs w (instance k (f x)) ≡ true
      → (occurs w (instance f (node 0 ts)) ≡ false) × (occurs w (k w) ≡ true) × ((y : ℕ) → occurs w (f y) ≡ occurs w (instance k (f y)))
  outside w x h o = (notin, ap (occurs w) (an.others w x (ap (λ z. occurs z (f x)) is ∙ src.1) notin) ∙ same_test w, same)
    where
      none_gets : (r : ℕ) → occurs r (instance f (node 0 ts)) ≡ true → occurs w (k r) ≡ false
      none_gets r j = refuted (occurs w (k r)) (λ i.
          clash (occurs w (instance k (instance f (node 0 ts)))) (occurs_instance w k (instance f (node 0 ts)) ∙ any_at (λ v. occurs w (k v)) r (instance f (node 0 ts)) j i) h)

      src : (r : ℕ) × (occurs r (f x) ≡ true) × (occurs w (k r) ≡ true)
      src = any_some (λ r. occurs w (k r)) (f x) (sym (occurs_instance w k (f x)) ∙ o)

      srcout : occurs src.0 (instance f (node 0 ts)) ≡ false
      srcout = refuted (occurs src.0 (instance f (node 0 ts))) (λ j. clash (occurs w (k src.0)) src.2 (none_gets src.0 j))

      is : w ≡ src.0
      is = same_var w src.0 (sym (ap (occurs w) (an.others src.0 x src.1 srcout)) ∙ src.2)

      notin : occurs w (instance f (node 0 ts)) ≡ false
      notin = ap (λ z. occurs z (instance f (node 0 ts))) is ∙ srcout

      each : (y r : ℕ) → occurs r (f y) ≡ true → nat_eq w r ≡ occurs w (k r)
      each y r o = go (occurs r (instance f (node 0 ts))) refl
        where
          go : (b : Bool) → occurs r (instance f (node 0 ts)) ≡ b → nat_eq w r ≡ occurs w (k r)
          go true e = refuted (nat_eq w r) (λ j. clash (occurs r (instance f (node 0 ts))) e (ap (λ z. occurs z (instance f (node 0 ts))) (sym (same_var w r j)) ∙ notin)) ∙ sym (none_gets r e)
          go false e = sym (ap (occurs w) (an.others r y o e))

      same : (y : ℕ) → occurs w (f y) ≡ occurs w (instance k (f y))
      same y = occurs_agree w (λ r. occurs w (k r)) (f y) (each y) ∙ sym (occurs_instance w k (f y))

  -- ---- the share

  wide : CoversShare (norm (record {
    sets = (ground_share sh (grounded 1 success (argument_sets ts))).sets;
    any = union (ground_share sh (grounded 1 success (argument_sets ts))).any (all_of (filter (λ s. meets s (var_set_all ts)) (ground_share sh (grounded 1 success (argument_sets ts))).sets));
  })) (λ x. instance k (f x))
  wide w x o = Member-norm (record {
    sets = (ground_share sh (grounded 1 success (argument_sets ts))).sets;
    any = union (ground_share sh (grounded 1 success (argument_sets ts))).any (all_of (filter (λ s. meets s (var_set_all ts)) (ground_share sh (grounded 1 success (argument_sets ts))).sets));
  }) (λ y. occurs w (instance k (f y))) (go (decide (occurs w (instance k (instance f (node 0 ts))))))
    where
      up : (y : ℕ) → (has (ground_share sh (grounded 1 success (argument_sets ts))).any y ≡ true) ⊎ (has (all_of (filter (λ s. meets s (var_set_all ts)) (ground_share sh (grounded 1 success (argument_sets ts))).sets)) y ≡ true)
          → has (union (ground_share sh (grounded 1 success (argument_sets ts))).any (all_of (filter (λ s. meets s (var_set_all ts)) (ground_share sh (grounded 1 success (argument_sets ts))).sets))) y ≡ true
      up y (inl h) =
          has-union (ground_share sh (grounded 1 success (argument_sets ts))).any (all_of (filter (λ s. meets s (var_set_all ts)) (ground_share sh (grounded 1 success (argument_sets ts))).sets)) y
          ∙ or_left (has (ground_share sh (grounded 1 success (argument_sets ts))).any y) (has (all_of (filter (λ s. meets s (var_set_all ts)) (ground_share sh (grounded 1 success (argument_sets ts))).sets)) y) h
      up y (inr h) =
          has-union (ground_share sh (grounded 1 success (argument_sets ts))).any (all_of (filter (λ s. meets s (var_set_all ts)) (ground_share sh (grounded 1 success (argument_sets ts))).sets)) y
          ∙ or_right (has (ground_share sh (grounded 1 success (argument_sets ts))).any y) (has (all_of (filter (λ s. meets s (var_set_all ts)) (ground_share sh (grounded 1 success (argument_sets ts))).sets)) y) h

      met_now : (r y z : ℕ) → has (var_set_all ts) z ≡ true → occurs r (f z) ≡ true → occurs r (f y) ≡ true → Member (ground_share sh (grounded 1 success (argument_sets ts))) (λ y. occurs r (f y))
          → (has (ground_share sh (grounded 1 success (argument_sets ts))).any y ≡ true) ⊎ (has (all_of (filter (λ s. meets s (var_set_all ts)) (ground_share sh (grounded 1 success (argument_sets ts))).sets)) y ≡ true)
      met_now r y z hz oz oy (inl h) =
          inr (In-all_of (λ y. occurs r (f y)) (filter (λ s. meets s (var_set_all ts)) (ground_share sh (grounded 1 success (argument_sets ts))).sets)
          (In-filter (λ s. Is s (λ y. occurs r (f y))) (λ s. meets s (var_set_all ts)) (ground_share sh (grounded 1 success (argument_sets ts))).sets (λ s i. meets-at s (var_set_all ts) z (i z ∙ oz) hz) h) y oy)
      met_now r y z hz oz oy (inr h) = inl (h y oy)

      more_any : (p : ℕ → Bool) → Member (ground_share sh (grounded 1 success (argument_sets ts))) p → Member (record {
        sets = (ground_share sh (grounded 1 success (argument_sets ts))).sets;
        any = union (ground_share sh (grounded 1 success (argument_sets ts))).any (all_of (filter (λ s. meets s (var_set_all ts)) (ground_share sh (grounded 1 success (argument_sets ts))).sets));
      }) p
      more_any p (inl h) = inl h
      more_any p (inr h) = inr (λ y j. up y (inl (h y j)))

      go : (occurs w (instance k (instance f (node 0 ts))) ≡ true) ⊎ (occurs w (instance k (instance f (node 0 ts))) ≡ false) → Member (record {
        sets = (ground_share sh (grounded 1 success (argument_sets ts))).sets;
        any = union (ground_share sh (grounded 1 success (argument_sets ts))).any (all_of (filter (λ s. meets s (var_set_all ts)) (ground_share sh (grounded 1 success (argument_sets ts))).sets));
      }) (λ y. occurs w (instance k (f y)))
      go (inl h) = inr (λ y j.
          let r = any_some (λ r. occurs w (k r)) (f y) (sym (occurs_instance w k (f y)) ∙ j) in
          let z = goal_place r.0 (all_inside w h r.0 y r.2 r.1) in
          up y (met_now r.0 y z.0 z.1 z.2 r.1 (still_member w r.0 y r.2 r.1)))
      go (inr h) =
          let q = outside w x h o in
          Member-same (record {
            sets = (ground_share sh (grounded 1 success (argument_sets ts))).sets;
            any = union (ground_share sh (grounded 1 success (argument_sets ts))).any (all_of (filter (λ s. meets s (var_set_all ts)) (ground_share sh (grounded 1 success (argument_sets ts))).sets));
          }) (λ y. occurs w (f y)) (λ y. occurs w (instance k (f y))) q.2
          (more_any (λ y. occurs w (f y)) (still_member w w x q.1 (q.2 x ∙ o)))

  narrow : meets (ground_share sh (grounded 1 success (argument_sets ts))).any (var_set_all ts) ≡ false → CoversShare (norm (record {
    sets = join_sets (filter (λ s. not (meets s (var_set_all ts))) (ground_share sh (grounded 1 success (argument_sets ts))).sets) (filter (λ s. is_member (places 1 s (argument_sets ts)) success) (closure (filter (λ s. meets s (var_set_all ts)) (ground_share sh (grounded 1 success (argument_sets ts))).sets)));
    any = (ground_share sh (grounded 1 success (argument_sets ts))).any;
  })) (λ x. instance k (f x))
  narrow nm w x o = Member-norm (record {
    sets = join_sets (filter (λ s. not (meets s (var_set_all ts))) (ground_share sh (grounded 1 success (argument_sets ts))).sets) (filter (λ s. is_member (places 1 s (argument_sets ts)) success) (closure (filter (λ s. meets s (var_set_all ts)) (ground_share sh (grounded 1 success (argument_sets ts))).sets)));
    any = (ground_share sh (grounded 1 success (argument_sets ts))).any;
  }) (λ y. occurs w (instance k (f y))) (go (decide (occurs w (instance k (instance f (node 0 ts))))))
    where
      set_of : (r z : ℕ) → has (var_set_all ts) z ≡ true → occurs r (f z) ≡ true → Member (ground_share sh (grounded 1 success (argument_sets ts))) (λ y. occurs r (f y))
          → In (λ s. Is s (λ y. occurs r (f y))) (filter (λ s. meets s (var_set_all ts)) (ground_share sh (grounded 1 success (argument_sets ts))).sets)
      set_of r z hz oz (inl h) =
          In-filter (λ s. Is s (λ y. occurs r (f y))) (λ s. meets s (var_set_all ts)) (ground_share sh (grounded 1 success (argument_sets ts))).sets (λ s i. meets-at s (var_set_all ts) z (i z ∙ oz) hz) h
      set_of r z hz oz (inr h) =
          absurd (clash (meets (ground_share sh (grounded 1 success (argument_sets ts))).any (var_set_all ts)) (meets-at (ground_share sh (grounded 1 success (argument_sets ts))).any (var_set_all ts) z (h z oz) hz) nm)

      kept : (p : ℕ → Bool) → ((z : ℕ) → has (var_set_all ts) z ≡ true → p z ≡ true → ⊥) → Member (ground_share sh (grounded 1 success (argument_sets ts))) p → Member (record {
        sets = join_sets (filter (λ s. not (meets s (var_set_all ts))) (ground_share sh (grounded 1 success (argument_sets ts))).sets) (filter (λ s. is_member (places 1 s (argument_sets ts)) success) (closure (filter (λ s. meets s (var_set_all ts)) (ground_share sh (grounded 1 success (argument_sets ts))).sets)));
        any = (ground_share sh (grounded 1 success (argument_sets ts))).any;
      }) p
      kept p n (inl h) =
          inl (In-join_left (λ s. Is s p) (filter (λ s. not (meets s (var_set_all ts))) (ground_share sh (grounded 1 success (argument_sets ts))).sets) (filter (λ s. is_member (places 1 s (argument_sets ts)) success) (closure (filter (λ s. meets s (var_set_all ts)) (ground_share sh (grounded 1 success (argument_sets ts))).sets)))
          (In-filter (λ s. Is s p) (λ s. not (meets s (var_set_all ts))) (ground_share sh (grounded 1 success (argument_sets ts))).sets
          (λ s i. ap not (meets-none s (var_set_all ts) (λ z a b. n z b (sym (i z) ∙ a)))) h))
      kept p n (inr h) = inr h

      go : (occurs w (instance k (instance f (node 0 ts))) ≡ true) ⊎ (occurs w (instance k (instance f (node 0 ts))) ≡ false) → Member (record {
        sets = join_sets (filter (λ s. not (meets s (var_set_all ts))) (ground_share sh (grounded 1 success (argument_sets ts))).sets) (filter (λ s. is_member (places 1 s (argument_sets ts)) success) (closure (filter (λ s. meets s (var_set_all ts)) (ground_share sh (grounded 1 success (argument_sets ts))).sets)));
        any = (ground_share sh (grounded 1 success (argument_sets ts))).any;
      }) (λ y. occurs w (instance k (f y)))
      go (inl h) =
          inl (In-join_right (λ s. Is s (λ y. occurs w (instance k (f y)))) (filter (λ s. not (meets s (var_set_all ts))) (ground_share sh (grounded 1 success (argument_sets ts))).sets) (filter (λ s. is_member (places 1 s (argument_sets ts)) success) (closure (filter (λ s. meets s (var_set_all ts)) (ground_share sh (grounded 1 success (argument_sets ts))).sets)))
          (In-filter (λ s. Is s (λ y. occurs w (instance k (f y)))) (λ s. is_member (places 1 s (argument_sets ts)) success) (closure (filter (λ s. meets s (var_set_all ts)) (ground_share sh (grounded 1 success (argument_sets ts))).sets)) found
          (In-weaken (λ s. Is s (λ y. touch k f w (instance f (node 0 ts)) y)) (λ s. Is s (λ y. occurs w (instance k (f y)))) (closure (filter (λ s. meets s (var_set_all ts)) (ground_share sh (grounded 1 success (argument_sets ts))).sets))
          (λ s i. Is-same s (λ y. touch k f w (instance f (node 0 ts)) y) (λ y. occurs w (instance k (f y))) whole i)
          (fill k f w (filter (λ s. meets s (var_set_all ts)) (ground_share sh (grounded 1 success (argument_sets ts))).sets) (instance f (node 0 ts))
          (λ v i j. let z = goal_place v i in set_of v z.0 z.1 z.2 (still_member w v z.0 j z.2))
          (sym (occurs_instance w k (instance f (node 0 ts))) ∙ h)))))
        where
          whole : (y : ℕ) → touch k f w (instance f (node 0 ts)) y ≡ occurs w (instance k (f y))
          whole y =
              same_bool (touch k f w (instance f (node 0 ts)) y) (occurs w (instance k (f y)))
              (λ i.
              let r = any_some (λ v. occurs w (k v) && occurs v (f y)) (instance f (node 0 ts)) i in
              let b = and_both (occurs w (k r.0)) (occurs r.0 (f y)) r.2 in
              occurs_instance w k (f y) ∙ any_at (λ v. occurs w (k v)) r.0 (f y) b.1 b.0)
              (λ i.
              let r = any_some (λ v. occurs w (k v)) (f y) (sym (occurs_instance w k (f y)) ∙ i) in
              any_at (λ v. occurs w (k v) && occurs v (f y)) r.0 (instance f (node 0 ts)) (all_inside w h r.0 y r.2 r.1) (and_made (occurs w (k r.0)) (occurs r.0 (f y)) r.2 r.1))

          -- its places are a member of the success
          found : (s : ℕ) → Is s (λ y. occurs w (instance k (f y))) → is_member (places 1 s (argument_sets ts)) success ≡ true
          found s i =
              let e : any_var_all (λ v. occurs w (instance k (f v))) ts ≡ true =
              sym (occurs_instance w (λ x. instance k (f x)) (node 0 ts)) ∙ ap (occurs w) (sym (instance_twice f k (node 0 ts))) ∙ h in
              let p = at_place (λ v. occurs w (instance k (f v))) 1 ts e in
              let b : (j : ℕ) → occurs w (instance (λ x. instance k (f x)) (argument 1 ts j)) ≡ occurs w (instance k (instance f (argument 1 ts j))) =
              λ j. ap (occurs w) (sym (instance_twice f k (argument 1 ts j))) in
              member-test (places 1 s (argument_sets ts)) success (λ j. occurs w (instance k (instance f (argument 1 ts j))))
              (Is-same (places 1 s (argument_sets ts)) (λ j. occurs w (instance (λ x. instance k (f x)) (argument 1 ts j))) (λ j. occurs w (instance k (instance f (argument 1 ts j)))) b (Is-places (λ x. instance k (f x)) ts w s i))
              (d.0 w p.0 (sym (b p.0) ∙ occurs_instance w (λ x. instance k (f x)) (argument 1 ts p.0) ∙ p.1))
      go (inr h) =
          let q = outside w x h o in
          Member-same (record {
            sets = join_sets (filter (λ s. not (meets s (var_set_all ts))) (ground_share sh (grounded 1 success (argument_sets ts))).sets) (filter (λ s. is_member (places 1 s (argument_sets ts)) success) (closure (filter (λ s. meets s (var_set_all ts)) (ground_share sh (grounded 1 success (argument_sets ts))).sets)));
            any = (ground_share sh (grounded 1 success (argument_sets ts))).any;
          }) (λ y. occurs w (f y)) (λ y. occurs w (instance k (f y))) q.2
          (kept (λ y. occurs w (f y)) (λ z hz oz. clash (occurs w (instance f (node 0 ts))) (goal_back w z hz oz) q.0) (still_member w w x q.1 (q.2 x ∙ o)))

  returned_share-covers : CoversShare (returned_share (ground_share sh (grounded 1 success (argument_sets ts))) (argument_sets ts) (var_set_all ts) success) (λ x. instance k (f x))
  returned_share-covers = go (is_wide_call (ground_share sh (grounded 1 success (argument_sets ts))) (var_set_all ts)) refl
    where
      go : (b : Bool) → is_wide_call (ground_share sh (grounded 1 success (argument_sets ts))) (var_set_all ts) ≡ b → CoversShare (cond b
          (norm (record {
            sets = (ground_share sh (grounded 1 success (argument_sets ts))).sets;
            any = union (ground_share sh (grounded 1 success (argument_sets ts))).any (all_of (filter (λ s. meets s (var_set_all ts)) (ground_share sh (grounded 1 success (argument_sets ts))).sets));
          }))
          (norm (record {
            sets = join_sets (filter (λ s. not (meets s (var_set_all ts))) (ground_share sh (grounded 1 success (argument_sets ts))).sets) (filter (λ s. is_member (places 1 s (argument_sets ts)) success) (closure (filter (λ s. meets s (var_set_all ts)) (ground_share sh (grounded 1 success (argument_sets ts))).sets)));
            any = (ground_share sh (grounded 1 success (argument_sets ts))).any;
          }))) (λ x. instance k (f x))
      go true e = wide
      go false e =
          narrow (or_none (meets (ground_share sh (grounded 1 success (argument_sets ts))).any (var_set_all ts)) (too_many (closure (filter (λ s. meets s (var_set_all ts)) (ground_share sh (grounded 1 success (argument_sets ts))).sets))) e).0

  -- ---- Free

  kept_is_var : (y : ℕ) → has (kept_free 1 fr sfr ts) y ≡ true → IsVar (instance k (f y))
  kept_is_var y h =
      let r = in_kept 1 fr sfr ts y h in
      subst IsVar (ap (λ t. instance k (instance f t)) r.1) (d.1 r.0 r.3)

  returned_free-covers : (y : ℕ) → has (returned_free sh fr (var_set_all ts) (kept_free 1 fr sfr ts)) y ≡ true → IsVar (instance k (f y))
  returned_free-covers y h =
      go (or_cases (has (kept_free 1 fr sfr ts) y) (has (without (without fr (var_set_all ts)) (met sh (without (var_set_all ts) (kept_free 1 fr sfr ts)))) y)
      (sym (has-union (kept_free 1 fr sfr ts) (without (without fr (var_set_all ts)) (met sh (without (var_set_all ts) (kept_free 1 fr sfr ts)))) y) ∙ h))
    where
      here : (r : ℕ) → f y ≡ var r → has (met sh (without (var_set_all ts) (kept_free 1 fr sfr ts))) y ≡ false
          → (occurs r (instance f (node 0 ts)) ≡ true) ⊎ (occurs r (instance f (node 0 ts)) ≡ false) → IsVar (k r)
      here r e nm (inr i) = (r, an.others r y (ap (occurs r) e ∙ same_test r) i)
      here r e nm (inl i) = kept (has (kept_free 1 fr sfr ts) z.0) refl
        where
          z : (z : ℕ) × (has (var_set_all ts) z ≡ true) × (occurs r (f z) ≡ true)
          z = goal_place r i

          oy : occurs r (f y) ≡ true
          oy = ap (occurs r) e ∙ same_test r

          kept : (b : Bool) → has (kept_free 1 fr sfr ts) z.0 ≡ b → IsVar (k r)
          kept true kz =
              let q = c.1 z.0 (in_kept 1 fr sfr ts z.0 kz).2 in
              let n : r ≡ q.0 = same_var r q.0 (sym (ap (occurs r) q.1) ∙ z.2) in
              subst IsVar (ap (instance k) q.1 ∙ ap k (sym n)) (kept_is_var z.0 kz)
          kept false kz =
              let lost : has (without (var_set_all ts) (kept_free 1 fr sfr ts)) z.0 ≡ true = without_made (var_set_all ts) (kept_free 1 fr sfr ts) z.0 z.1 kz in
              absurd (clash (has (met sh (without (var_set_all ts) (kept_free 1 fr sfr ts))) y)
              (met-has sh (without (var_set_all ts) (kept_free 1 fr sfr ts)) (λ x. occurs r (f x)) z.0 y (c.0 r y oy) lost z.2 oy) nm)

      go : (has (kept_free 1 fr sfr ts) y ≡ true) ⊎ (has (without (without fr (var_set_all ts)) (met sh (without (var_set_all ts) (kept_free 1 fr sfr ts)))) y ≡ true) → IsVar (instance k (f y))
      go (inl i) = kept_is_var y i
      go (inr i) =
          let p = without_parts (without fr (var_set_all ts)) (met sh (without (var_set_all ts) (kept_free 1 fr sfr ts))) y i in
          let q = without_parts fr (var_set_all ts) y p.0 in
          let r = c.1 y q.0 in
          subst IsVar (sym (ap (instance k) r.1)) (here r.0 r.1 p.1 (decide (occurs r.0 (instance f (node 0 ts)))))

pub after_call-covers : (s success : State) (goal : Tree) (f k : ℕ → Tree) → Covers s f → Covers success (λ j. instance k (instance f (argument 1 (arguments goal) j)))
    → Answers (instance f (node 0 (arguments goal))) f k → Covers (after_call s goal success) (λ x. instance k (f x))
after_call-covers Unreachable success goal f k c d an = absurd c
after_call-covers (Reachable sh fr) Unreachable goal f k c d an = absurd d
after_call-covers (Reachable sh fr) (Reachable success sfr) goal f k c d an = (
  returned_share-covers sh success fr sfr ts f k c d an,
  λ y o.
      returned_free-covers sh success fr sfr ts f k c d an y
      (both_left (returned_free sh fr (var_set_all ts) (kept_free 1 fr sfr ts)) (nonground (returned_share (ground_share sh (grounded 1 success (argument_sets ts))) (argument_sets ts) (var_set_all ts) success)) y o),
)
  where
    ts : Trees
    ts = arguments goal
