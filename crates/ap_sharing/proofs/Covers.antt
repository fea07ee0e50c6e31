-- What an operation's Share covers.
use Rattle.std.proofs.Common.{ap₂, ◌≡◌, ℕ, ◌⊎◌, inl, inr, Bool, true, false, not, ◌&&◌, cond, List, [], ◌∷◌, map, arith, refl, ap, sym, ◌∙◌, length, nat_eq}
use Rattle.std.proofs.lemmas.Bool.{false≢true, eqb-true, or_left, or_right, or_cases, eq-eqb, not-true, ltb-false, le-ltb, and_parts, and_from, false_from_ne_true}
use Rattle.std.specs.List.{filter, list_any}
use Rattle.std.specs.Ordering.{nat_cmp}
use Rattle.std.specs.Cmp.Lexicographic.{pointwise, bytes_decides}
use Rattle.std.proofs.lemmas.List.Kept.{IsStrictlySortedBy-filter}
use Rattle.ap_term.proofs.Facts.{same_bool}
use Rattle.ap_term.specs.Tree.{Tree, atom}
use Rattle.ap_term.specs.Vars.{occurs}
use Rattle.ap_term.specs.Substitution.{instance}
use Rattle.ap_term.specs.Independence.{IsGround, SharesNoVariable}
use Rattle.ap_sharing.specs.VarSet.{has, empty, union, both, without, meets, within}
use Rattle.ap_sharing.specs.Sets.{In, Is, IsAscending, listed, join_sets, sets_of, all_of, too_many}
use Rattle.ap_sharing.specs.Share.{Share, Member, IsNormal, same_share, nonground, met, may_share, dropped, widen, limited, norm, ground_share, unite_shares, project_share}
use Rattle.ap_sharing.specs.Covering.{CoversShare, only, Grounds}
use Rattle.ap_sharing.proofs.Elements.{same_test, clash, has-union, has-both, meets-at, meets-none, within-at, without_made, has-empty}
use Rattle.ap_sharing.proofs.Lists.{Elem, In-elem, listed-filter, Is-same, In-weaken, In-filter, In-map, In-all_of, In-join_left, In-join_right, ascending-none}
use Rattle.ap_sharing.proofs.Trees.{occurs-back, occurs-there}

pub Member-same : (sh : Share) (p q : ℕ → Bool) → ((x : ℕ) → p x ≡ q x) → Member sh p → Member sh q
Member-same sh p q e (inl h) = inl (In-weaken (λ s. Is s p) (λ s. Is s q) sh.sets (λ s k. Is-same s p q e k) h)
Member-same sh p q e (inr h) = inr (λ x k. h x (e x ∙ k))

drop-sets : (any : ℕ) (p : ℕ → Bool) (ss : List ℕ) → In (λ s. Is s p) ss
    → In (λ s. Is s p) (filter (λ s. not (within s any)) ss) ⊎ ((x : ℕ) → p x ≡ true → has any x ≡ true)
drop-sets any p [] h = absurd h
drop-sets any p (s ∷ ss) h = go (within s any) refl h (drop-sets any p ss)
  where
    go : (b : Bool) → within s any ≡ b → In (λ s. Is s p) (s ∷ ss)
        → (In (λ s. Is s p) ss → In (λ s. Is s p) (filter (λ s. not (within s any)) ss) ⊎ ((x : ℕ) → p x ≡ true → has any x ≡ true))
        → In (λ s. Is s p) (cond (not b) (s ∷ filter (λ s. not (within s any)) ss) (filter (λ s. not (within s any)) ss)) ⊎ ((x : ℕ) → p x ≡ true → has any x ≡ true)
    go true e (inl k) ih = inr (λ x j. within-at s any x e (k x ∙ j))
    go true e (inr k) ih = ih k
    go false e (inl k) ih = inl (inl k)
    go false e (inr k) ih = elim (ih k) [ inl j ↦ inl (inr j) | inr j ↦ inr j ]

pub Member-nonground : (sh : Share) (p : ℕ → Bool) → Member sh p → (x : ℕ) → p x ≡ true → has (nonground sh) x ≡ true
Member-nonground sh p (inl h) x k = has-union sh.any (all_of sh.sets) x ∙ or_right (has sh.any x) (has (all_of sh.sets) x) (In-all_of p sh.sets h x k)
Member-nonground sh p (inr h) x k = has-union sh.any (all_of sh.sets) x ∙ or_left (has sh.any x) (has (all_of sh.sets) x) (h x k)

pub Member-widen : (sh : Share) (p : ℕ → Bool) → Member sh p → Member (widen sh) p
Member-widen sh p h = inr (Member-nonground sh p h)

pub Member-limited : (sh : Share) (p : ℕ → Bool) → Member sh p → Member (limited sh) p
Member-limited sh p h = go (too_many sh.sets)
  where
    go : (b : Bool) → Member (cond b (widen sh) sh) p
    go true = Member-widen sh p h
    go false = h

pub Member-dropped : (sh : Share) (p : ℕ → Bool) → Member sh p → Member (dropped sh) p
Member-dropped sh p (inl h) = drop-sets sh.any p sh.sets h
Member-dropped sh p (inr h) = inr h

pub Member-norm : (sh : Share) (p : ℕ → Bool) → Member sh p → Member (norm sh) p
Member-norm sh p h = Member-limited (dropped sh) p (Member-dropped sh p h)

-- what shares a member with v
pub met-has : (sh : Share) (v : ℕ) (p : ℕ → Bool) (z y : ℕ) → Member sh p → has v z ≡ true → p z ≡ true → p y ≡ true → has (met sh v) y ≡ true
met-has sh v p z y (inl h) vz pz py =
    has-union (cond (meets sh.any v) sh.any empty) (all_of (filter (λ s. meets s v) sh.sets)) y
    ∙ or_right (has (cond (meets sh.any v) sh.any empty) y) (has (all_of (filter (λ s. meets s v) sh.sets)) y)
    (In-all_of p (filter (λ s. meets s v) sh.sets) (In-filter (λ s. Is s p) (λ s. meets s v) sh.sets (λ s k. meets-at s v z (k z ∙ pz) vz) h) y py)
met-has sh v p z y (inr h) vz pz py =
    has-union (cond (meets sh.any v) sh.any empty) (all_of (filter (λ s. meets s v) sh.sets)) y
    ∙ or_left (has (cond (meets sh.any v) sh.any empty) y) (has (all_of (filter (λ s. meets s v) sh.sets)) y)
    (ap (λ b. has (cond b sh.any empty) y) (meets-at sh.any v z (h z pz) vz) ∙ h y py)

-- ---- ground

pub Member-ground : (sh : Share) (v : ℕ) (p : ℕ → Bool) → ((z : ℕ) → has v z ≡ true → p z ≡ false) → Member sh p → Member (ground_share sh v) p
Member-ground sh v p e h = Member-norm (record { sets = filter (λ s. not (meets s v)) sh.sets; any = without sh.any v }) p (go h)
  where
    go : Member sh p → Member (record { sets = filter (λ s. not (meets s v)) sh.sets; any = without sh.any v }) p
    go (inl k) =
        inl (In-filter (λ s. Is s p) (λ s. not (meets s v)) sh.sets
        (λ s i. ap not (meets-none s v (λ x a b. clash (p x) (sym (i x) ∙ a) (e x b)))) k)
    go (inr k) = inr (λ x i. without_made sh.any v x (k x i) (false_from_ne_true (has v x) (λ b. clash (p x) i (e x b))))

pub ground-covers : (sh : Share) (v : ℕ) (q : ℕ → Bool) (f u : ℕ → Tree) → Grounds v q f u → CoversShare sh f → CoversShare (ground_share sh v) (λ x. instance u (f x))
ground-covers sh v q f u g h w x o =
    Member-same (ground_share sh v) (λ y. occurs w (f y)) (λ y. occurs w (instance u (f y))) same (Member-ground sh v (λ y. occurs w (f y)) (λ z k. g.outside w z free k) (h w x here))
  where
    -- only w itself was w before
    from : (r : ℕ) → occurs w (u r) ≡ true → (q r ≡ false) × (w ≡ r)
    from r k =
        let n : q r ≡ false = false_from_ne_true (q r) (λ b. clash (occurs w (u r)) k (g.bound r w b)) in
        (n, eqb-true w r (sym (ap (occurs w) (g.alone r n)) ∙ k))

    at : (r : ℕ) × (occurs r (f x) ≡ true) × (occurs w (u r) ≡ true)
    at = occurs-back w u (f x) o

    free : q w ≡ false
    free = let k = from at.0 at.2 in ap q k.1 ∙ k.0

    here : occurs w (f x) ≡ true
    here = ap (λ z. occurs z (f x)) (from at.0 at.2).1 ∙ at.1

    same : (y : ℕ) → occurs w (f y) ≡ occurs w (instance u (f y))
    same y =
        same_bool (occurs w (f y)) (occurs w (instance u (f y)))
        (λ k. occurs-there w w u (f y) k (ap (occurs w) (g.alone w free) ∙ same_test w))
        (λ k. let r = occurs-back w u (f y) k in ap (λ z. occurs z (f y)) (from r.0 r.2).1 ∙ r.1)

-- ---- unite

pub unite_first-covers : (a b : Share) (f : ℕ → Tree) → CoversShare a f → CoversShare (unite_shares a b) f
unite_first-covers a b f h u x o = Member-norm (record { sets = join_sets a.sets b.sets; any = union a.any b.any }) (λ y. occurs u (f y)) (go (h u x o))
  where
    go : Member a (λ y. occurs u (f y)) → Member (record { sets = join_sets a.sets b.sets; any = union a.any b.any }) (λ y. occurs u (f y))
    go (inl k) = inl (In-join_left (λ s. Is s (λ y. occurs u (f y))) a.sets b.sets k)
    go (inr k) = inr (λ y j. has-union a.any b.any y ∙ or_left (has a.any y) (has b.any y) (k y j))

pub unite_second-covers : (a b : Share) (f : ℕ → Tree) → CoversShare b f → CoversShare (unite_shares a b) f
unite_second-covers a b f h u x o = Member-norm (record { sets = join_sets a.sets b.sets; any = union a.any b.any }) (λ y. occurs u (f y)) (go (h u x o))
  where
    go : Member b (λ y. occurs u (f y)) → Member (record { sets = join_sets a.sets b.sets; any = union a.any b.any }) (λ y. occurs u (f y))
    go (inl k) = inl (In-join_right (λ s. Is s (λ y. occurs u (f y))) a.sets b.sets k)
    go (inr k) = inr (λ y j. has-union a.any b.any y ∙ or_right (has a.any y) (has b.any y) (k y j))

-- ---- project

pub only_occurs : (keep : ℕ) (f : ℕ → Tree) (u x : ℕ) → (occurs u (f x) && has keep x) ≡ occurs u (only keep f x)
only_occurs keep f u x = go (has keep x) (occurs u (f x)) refl
  where
    go : (b o : Bool) → occurs u (f x) ≡ o → (o && b) ≡ occurs u (cond b (f x) (atom 0))
    go true true e = sym e
    go true false e = sym e
    go false true e = refl
    go false false e = refl

pub project-covers : (sh : Share) (keep : ℕ) (f : ℕ → Tree) → CoversShare sh f → CoversShare (project_share sh keep) (only keep f)
project-covers sh keep f h u x o =
    Member-norm (record { sets = sets_of (map (λ s. both s keep) sh.sets); any = both sh.any keep }) (λ y. occurs u (only keep f y))
    (Member-same (record { sets = sets_of (map (λ s. both s keep) sh.sets); any = both sh.any keep }) (λ y. occurs u (f y) && has keep y) (λ y. occurs u (only keep f y)) (only_occurs keep f u)
    (go (h u x (and_parts (occurs u (f x)) (has keep x) (only_occurs keep f u x ∙ o)).0)))
  where
    go : Member sh (λ y. occurs u (f y)) → Member (record { sets = sets_of (map (λ s. both s keep) sh.sets); any = both sh.any keep }) (λ y. occurs u (f y) && has keep y)
    go (inl k) =
        inl (In-join_right (λ s. Is s (λ y. occurs u (f y) && has keep y)) [] (map (λ s. both s keep) sh.sets)
        (In-map (λ s. Is s (λ y. occurs u (f y))) (λ s. Is s (λ y. occurs u (f y) && has keep y)) (λ s. both s keep) sh.sets
        (λ s i y. has-both s keep y ∙ ap (λ b. b && has keep y) (i y)) k))
    go (inr k) = inr (λ y j. let p = and_parts (occurs u (f y)) (has keep y) j in has-both sh.any keep y ∙ and_from (has sh.any y) (has keep y) (k y p.0) p.1)

-- ---- what a Share says

no_set : (p : ℕ → Bool) (x y : ℕ) (ss : List ℕ) → In (λ s. Is s p) ss → p x ≡ true → p y ≡ true → list_any (λ s. has s x && has s y) ss ≡ true
no_set p x y [] h px py = absurd h
no_set p x y (s ∷ ss) (inl h) px py = or_left (has s x && has s y) (list_any (λ s. has s x && has s y) ss) (and_from (has s x) (has s y) (h x ∙ px) (h y ∙ py))
no_set p x y (s ∷ ss) (inr h) px py = or_right (has s x && has s y) (list_any (λ s. has s x && has s y) ss) (no_set p x y ss h px py)

pub Member-shares : (sh : Share) (p : ℕ → Bool) (x y : ℕ) → Member sh p → p x ≡ true → p y ≡ true → may_share sh x y ≡ true
Member-shares sh p x y (inl h) px py =
    or_right (has sh.any x && has sh.any y) (list_any (λ s. has s x && has s y) sh.sets) (no_set p x y sh.sets h px py)
Member-shares sh p x y (inr h) px py =
    or_left (has sh.any x && has sh.any y) (list_any (λ s. has s x && has s y) sh.sets) (and_from (has sh.any x) (has sh.any y) (h x px) (h y py))

pub apart : (sh : Share) (f : ℕ → Tree) (x y : ℕ) → CoversShare sh f → may_share sh x y ≡ false → SharesNoVariable (f x) (f y)
apart sh f x y h n u o =
    false_from_ne_true (occurs u (f y)) (λ k. clash (may_share sh x y) (Member-shares sh (λ z. occurs u (f z)) x y (h u x o) o k) n)

pub surely_ground : (sh : Share) (f : ℕ → Tree) (x : ℕ) → CoversShare sh f → has (nonground sh) x ≡ false → IsGround (f x)
surely_ground sh f x h n u =
    false_from_ne_true (occurs u (f x)) (λ o. clash (has (nonground sh) x) (Member-nonground sh (λ z. occurs u (f z)) (h u x o) x o) n)

pub normal-none : (v : ℕ) → IsNormal (record { sets = []; any = v })
normal-none v = record { ascending = ascending-none; apart = λ s h. absurd (false≢true h); few = omega arith }

pub normal-norm : (sh : Share) → IsAscending sh.sets → IsNormal (norm sh)
normal-norm sh h = go (too_many (dropped sh).sets) refl
  where
    go : (b : Bool) → too_many (dropped sh).sets ≡ b → IsNormal (cond b (widen (dropped sh)) (dropped sh))
    go true e = normal-none (nonground (dropped sh))
    go false e = record {
      ascending = IsStrictlySortedBy-filter nat_cmp (λ s. not (within s sh.any)) sh.sets h;
      apart = λ s k. not-true (within s sh.any) (listed-filter (λ t. not (within t sh.any)) s sh.sets k);
      few = ltb-false 4096 (length (dropped sh).sets) e;
    }

filter-all : (p : ℕ → Bool) (ss : List ℕ) → ((s : ℕ) → listed s ss ≡ true → p s ≡ true) → filter p ss ≡ ss
filter-all p [] h = refl
filter-all p (s ∷ ss) h =
    ap (λ b. cond b (s ∷ filter p ss) (filter p ss)) (h s (or_left (nat_eq s s) (listed s ss) (same_test s)))
    ∙ ap (λ r. s ∷ r) (filter-all p ss (λ t k. h t (or_right (nat_eq t s) (listed t ss) k)))

pub norm-normal : (sh : Share) → IsNormal sh → norm sh ≡ sh
norm-normal sh n =
    ap (λ ss. limited (record { sets = ss; any = sh.any })) (filter-all (λ s. not (within s sh.any)) sh.sets (λ s k. ap not (n.apart s k)))
    ∙ ap (λ b. cond b (widen sh) sh) (le-ltb 4096 (length sh.sets) n.few)

pub same_share-true : (a b : Share) → same_share a b ≡ true → a ≡ b
same_share-true a b h =
    let p = and_parts (pointwise nat_eq a.sets b.sets) (nat_eq a.any b.any) h in
    ap₂ (λ ss v. record { sets = ss; any = v }) ((bytes_decides a.sets b.sets).0 p.0) (eqb-true a.any b.any p.1)

pub same_share-made : (a b : Share) → a ≡ b → same_share a b ≡ true
same_share-made a b e =
    and_from (pointwise nat_eq a.sets b.sets) (nat_eq a.any b.any) ((bytes_decides a.sets b.sets).1 (ap (λ s. s.sets) e)) (eq-eqb a.any b.any (ap (λ s. s.any) e))

-- ---- what members there are

In-have : (p : ℕ → Bool) (ss : List ℕ) → list_any p ss ≡ true → (s : ℕ) × Elem s ss × (p s ≡ true)
In-have p [] h = absurd (false≢true h)
In-have p (s ∷ ss) h =
    elim (or_cases (p s) (list_any p ss) h) [ inl k ↦ (s, inl refl, k) | inr k ↦ (let r = In-have p ss k in (r.0, inr r.1, r.2)) ]

in_some : (x : ℕ) (ss : List ℕ) → has (all_of ss) x ≡ true → (s : ℕ) × Elem s ss × (has s x ≡ true)
in_some x [] h = absurd (clash (has empty x) h (has-empty x))
in_some x (s ∷ ss) h =
    elim (or_cases (has s x) (has (all_of ss) x) (sym (has-union s (all_of ss) x) ∙ h))
    [ inl k ↦ (s, inl refl, k) | inr k ↦ (let r = in_some x ss k in (r.0, inr r.1, r.2)) ]

its_member : (sh : Share) (s : ℕ) → Elem s sh.sets → Member sh (has s)
its_member sh s h = inl (In-elem (λ r. Is r (has s)) sh.sets s h (λ x. refl))

pub together : (sh : Share) (x y : ℕ) → may_share sh x y ≡ true → (p : ℕ → Bool) × Member sh p × (p x ≡ true) × (p y ≡ true)
together sh x y h =
    elim (or_cases (has sh.any x && has sh.any y) (list_any (λ s. has s x && has s y) sh.sets) h) [
      | inl k ↦ (let q = and_parts (has sh.any x) (has sh.any y) k in (has sh.any, inr (λ z i. i), q.0, q.1))
      | inr k ↦ (let r = In-have (λ s. has s x && has s y) sh.sets k in let q = and_parts (has r.0 x) (has r.0 y) r.2 in (has r.0, its_member sh r.0 r.1, q.0, q.1))
    ]

pub of_a_member : (sh : Share) (x : ℕ) → has (nonground sh) x ≡ true → (p : ℕ → Bool) × Member sh p × (p x ≡ true)
of_a_member sh x h =
    elim (or_cases (has sh.any x) (has (all_of sh.sets) x) (sym (has-union sh.any (all_of sh.sets) x) ∙ h)) [
      | inl k ↦ (has sh.any, inr (λ z i. i), k)
      | inr k ↦ (let r = in_some x sh.sets k in (has r.0, its_member sh r.0 r.1, r.2))
    ]
