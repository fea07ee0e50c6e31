-- The state after equations, and after two terms were unified, covers.
use Rattle.std.proofs.Common.{◌≡◌, ℕ, Bool, true, false, ◌==◌, if◌then◌else◌, [], ◌∷◌, ◌++◌, Option, Some, None, refl, ap, ap₂, sym, ◌∙◌}
use Rattle.std.proofs.lemmas.Bool.{false≢true}
use Rattle.std.proofs.lemmas.Bool.Decides.{Decides-eqb, Decides-int_eq}
use Rattle.std.specs.Ordering.{int_eq}
use Rattle.ap_term.specs.Tree.{Tree, Trees, var, int, atom, node, none, more}
use Rattle.ap_term.specs.Substitution.{instance, instance_all}
use Rattle.ap_term.specs.Unification.{both, Equations}
use Rattle.ap_absunify.specs.MostGeneral.{MostGeneral, Unify_all, MostGeneral_all}
use Rattle.ap_absunify.specs.declared.states.State.{State}
use Rattle.ap_absunify.specs.State.{Covers}
use Rattle.ap_absunify.specs.AfterUnify.{after_unify}
use Rattle.ap_absunify.specs.AfterEqual.{after_all, parts, parts_all, after_parts, after_equal}
use Rattle.ap_absunify.proofs.AfterUnify.{after_unify-covers}
use Rattle.ap_absunify.proofs.Renamed.{Covers-same, Covers-renamed}
use Rattle.ap_absunify.proofs.Unifier.{complete}
use Rattle.ap_term.proofs.Copies.{instance_twice, instance_var}
use Rattle.ap_term.proofs.Solutions.{same_var, instance_agree}

-- ---- equations one after another

-- where they have a unifier, the state after them covers a most general one
found : (es : Equations) (s : State) (f k : ℕ → Tree) → Unify_all f k es → Covers s f
    → (u : ℕ → Tree) × MostGeneral_all f es u × Covers (after_all s es) (λ x. instance u (f x))
found [] s f k h c = (λ x. var x, (tt, λ j i x. refl), Covers-same s f (λ x. instance (λ y. var y) (f x)) (λ x. sym (instance_var (f x))) c)
found (e ∷ es) s f k h c = go (found es) (complete (f e.0) (instance f e.1) k h.0)
  where
    under : (u : ℕ → Tree) (ds : Equations) (j i : ℕ → Tree) → ((x : ℕ) → instance j (u x) ≡ i x) → Unify_all f i ds → Unify_all (λ x. instance u (f x)) j ds
    under u [] j i a n = tt
    under u (d ∷ ds) j i a n = (
      instance_twice u j (f d.0) ∙ instance_agree (λ x. instance j (u x)) i (f d.0) (λ y o. a y) ∙ n.0
          ∙ sym (instance_agree (λ x. instance j (u x)) i (instance f d.1) (λ y o. a y)) ∙ sym (instance_twice u j (instance f d.1)) ∙ ap (instance j) (instance_twice f u d.1),
      under u ds j i a n.1,
    )

    over : (u : ℕ → Tree) (ds : Equations) (j : ℕ → Tree) → Unify_all (λ x. instance u (f x)) j ds → Unify_all f (λ x. instance j (u x)) ds
    over u [] j n = tt
    over u (d ∷ ds) j n = (
      sym (instance_twice u j (f d.0)) ∙ n.0 ∙ sym (ap (instance j) (instance_twice f u d.1)) ∙ instance_twice u j (instance f d.1),
      over u ds j n.1,
    )

    go : ((s : State) (f k : ℕ → Tree) → Unify_all f k es → Covers s f → (u : ℕ → Tree) × MostGeneral_all f es u × Covers (after_all s es) (λ x. instance u (f x)))
        → (u : ℕ → Tree) × MostGeneral (f e.0) (instance f e.1) u → (u : ℕ → Tree) × MostGeneral_all f (e ∷ es) u × Covers (after_all s (e ∷ es)) (λ x. instance u (f x))
    go ih (u, m) = after (ih (after_unify s e.0 e.1) (λ x. instance u (f x)) k (under u es k k (m.1 k h.0) h.1) (after_unify-covers s e.0 e.1 f u c m))
      where
        after : (v : ℕ → Tree) × MostGeneral_all (λ x. instance u (f x)) es v × Covers (after_all (after_unify s e.0 e.1) es) (λ x. instance v (instance u (f x)))
            → (u : ℕ → Tree) × MostGeneral_all f (e ∷ es) u × Covers (after_all s (e ∷ es)) (λ x. instance u (f x))
        after (v, n, d) = (
          λ x. instance v (u x),
          (
            (sym (instance_twice u v (f e.0)) ∙ ap (instance v) m.0 ∙ instance_twice u v (instance f e.1), over u es v n.0),
            λ j i x.
                instance_twice v j (u x) ∙ instance_agree (λ y. instance j (v y)) j (u x) (λ y o. n.1 j (under u es j j (m.1 j i.0) i.1) y) ∙ m.1 j i.0 x,
          ),
          Covers-same (after_all (after_unify s e.0 e.1) es) (λ x. instance v (instance u (f x))) (λ x. instance (λ y. instance v (u y)) (f x)) (λ x. instance_twice u v (f x)) d,
        )

pub after_all-covers : (es : Equations) (s : State) (f u : ℕ → Tree) → Covers s f → MostGeneral_all f es u → Covers (after_all s es) (λ x. instance u (f x))
after_all-covers es s f u c m = go (found es s f u m.0 c)
  where
    go : (v : ℕ → Tree) × MostGeneral_all f es v × Covers (after_all s es) (λ x. instance v (f x)) → Covers (after_all s es) (λ x. instance u (f x))
    go (v, n, d) =
        Covers-renamed (after_all s es) (λ x. instance v (f x)) (λ x. instance u (f x)) u v
        (λ x. instance_twice v u (f x) ∙ instance_agree (λ y. instance u (v y)) u (f x) (λ y o. n.1 u m.0 y))
        (λ x. instance_twice u v (f x) ∙ instance_agree (λ y. instance v (u y)) v (f x) (λ y o. m.1 v n.0 y)) d

-- ---- =

abbrev pub Unify_some : (ℕ → Tree) → (ℕ → Tree) → Option Equations → Type 0
Unify_some f k None = ⊥
Unify_some f k (Some es) = Unify_all f k es

append_made : (f k : ℕ → Tree) (es ds : Equations) → Unify_all f k es → Unify_all f k ds → Unify_all f k (es ++ ds)
append_made f k [] ds h i = i
append_made f k (e ∷ es) ds h i = (h.0, append_made f k es ds h.1 i)

append_parts : (f k : ℕ → Tree) (es ds : Equations) → Unify_all f k (es ++ ds) → Unify_all f k es × Unify_all f k ds
append_parts f k [] ds h = (tt, h)
append_parts f k (e ∷ es) ds h = let r = append_parts f k es ds h.1 in ((h.0, r.0), r.1)

join_made : (f k : ℕ → Tree) (a b : Option Equations) → Unify_some f k a → Unify_some f k b → Unify_some f k (both a b)
join_made f k None b h i = absurd h
join_made f k (Some es) None h i = absurd i
join_made f k (Some es) (Some ds) h i = append_made f k es ds h i

join_split : (f k : ℕ → Tree) (a b : Option Equations) → Unify_some f k (both a b) → Unify_some f k a × Unify_some f k b
join_split f k None b h = absurd h
join_split f k (Some es) None h = absurd h
join_split f k (Some es) (Some ds) h = append_parts f k es ds h

if_split : (f k : ℕ → Tree) (b : Bool) (o : Option Equations) → Unify_some f k (if b then o else None) → (b ≡ true) × Unify_some f k o
if_split f k true o h = (refl, h)
if_split f k false o h = absurd h

if_made : (f k : ℕ → Tree) (b : Bool) (o : Option Equations) → b ≡ true → Unify_some f k o → Unify_some f k (if b then o else None)
if_made f k true o e h = h
if_made f k false o e h = absurd (false≢true e)

mutual
  parts-forth : (f k : ℕ → Tree) (t u : Tree) → Unify_some f k (parts t u) → instance k (instance f t) ≡ instance k (instance f u)
  parts-forth f k (var x) u h = h.0
  parts-forth f k (int z) (var y) h = sym h.0
  parts-forth f k (int z) (int w) h = ap int ((Decides-int_eq z w).0 (if_split f k (int_eq z w) (Some []) h).0)
  parts-forth f k (int z) (atom b) h = absurd h
  parts-forth f k (int z) (node b us) h = absurd h
  parts-forth f k (atom a) (var y) h = sym h.0
  parts-forth f k (atom a) (int w) h = absurd h
  parts-forth f k (atom a) (atom b) h = ap atom (same_var a b (if_split f k (a == b) (Some []) h).0)
  parts-forth f k (atom a) (node b us) h = absurd h
  parts-forth f k (node a ts) (var y) h = sym h.0
  parts-forth f k (node a ts) (int w) h = absurd h
  parts-forth f k (node a ts) (atom b) h = absurd h
  parts-forth f k (node a ts) (node b us) h =
      let r = if_split f k (a == b) (parts_all ts us) h in
      ap₂ node (same_var a b r.0) (parts_all-forth f k ts us r.1)

  parts_all-forth : (f k : ℕ → Tree) (ts us : Trees) → Unify_some f k (parts_all ts us) → instance_all k (instance_all f ts) ≡ instance_all k (instance_all f us)
  parts_all-forth f k none none h = refl
  parts_all-forth f k none (more u us) h = absurd h
  parts_all-forth f k (more t ts) none h = absurd h
  parts_all-forth f k (more t ts) (more u us) h =
      let r = join_split f k (parts t u) (parts_all ts us) h in ap₂ more (parts-forth f k t u r.0) (parts_all-forth f k ts us r.1)

mutual
  parts-back : (f k : ℕ → Tree) (t u : Tree) → instance k (instance f t) ≡ instance k (instance f u) → Unify_some f k (parts t u)
  parts-back f k (var x) u h = (h, tt)
  parts-back f k (int z) (var y) h = (sym h, tt)
  parts-back f k (int z) (int w) h = let e : z ≡ w = cc in if_made f k (int_eq z w) (Some []) ((Decides-int_eq z w).1 e) tt
  parts-back f k (int z) (atom b) h = absurd (cc)
  parts-back f k (int z) (node b us) h = absurd (cc)
  parts-back f k (atom a) (var y) h = (sym h, tt)
  parts-back f k (atom a) (int w) h = absurd (cc)
  parts-back f k (atom a) (atom b) h = let e : a ≡ b = cc in if_made f k (a == b) (Some []) ((Decides-eqb a b).1 e) tt
  parts-back f k (atom a) (node b us) h = absurd (cc)
  parts-back f k (node a ts) (var y) h = (sym h, tt)
  parts-back f k (node a ts) (int w) h = absurd (cc)
  parts-back f k (node a ts) (atom b) h = absurd (cc)
  parts-back f k (node a ts) (node b us) h =
      let e : a ≡ b = cc in
      let i : instance_all k (instance_all f ts) ≡ instance_all k (instance_all f us) = cc in
      if_made f k (a == b) (parts_all ts us) ((Decides-eqb a b).1 e) (parts_all-back f k ts us i)

  parts_all-back : (f k : ℕ → Tree) (ts us : Trees) → instance_all k (instance_all f ts) ≡ instance_all k (instance_all f us) → Unify_some f k (parts_all ts us)
  parts_all-back f k none none h = tt
  parts_all-back f k none (more u us) h = absurd (cc)
  parts_all-back f k (more t ts) none h = absurd (cc)
  parts_all-back f k (more t ts) (more u us) h =
      let e : instance k (instance f t) ≡ instance k (instance f u) = cc in
      let i : instance_all k (instance_all f ts) ≡ instance_all k (instance_all f us) = cc in
      join_made f k (parts t u) (parts_all ts us) (parts-back f k t u e) (parts_all-back f k ts us i)

pub after_equal-covers : (s : State) (a b : Tree) (f u : ℕ → Tree) → Covers s f → MostGeneral (instance f a) (instance f b) u
    → Covers (after_equal s a b) (λ x. instance u (f x))
after_equal-covers s a b f u c m = go (parts a b) (parts-back f u a b m.0) (λ k h. m.1 k (parts-forth f k a b h))
  where
    go : (o : Option Equations) → Unify_some f u o → ((k : ℕ → Tree) → Unify_some f k o → (x : ℕ) → instance k (u x) ≡ k x) → Covers (after_parts s o) (λ x. instance u (f x))
    go None h g = absurd h
    go (Some es) h g = after_all-covers es s f u c (h, g)
