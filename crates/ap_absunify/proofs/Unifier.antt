-- What a most general unifier binds and mentions.
use Rattle.std.proofs.Common.{◌≡◌, ℕ, Option, None, Some, Bool, true, false, nat_eq, cond, refl, ap, sym, ◌∙◌, subst}
use Rattle.std.proofs.lemmas.Bool.{false≢true}
use Rattle.ap_term.specs.Tree.{Tree, var, int, atom, node}
use Rattle.ap_term.specs.Substitution.{instance, Subst, value}
use Rattle.ap_term.specs.Vars.{occurs}
use Rattle.ap_term.specs.Unification.{mgu}
use Rattle.ap_term.specs.Unifier.{IsMostGeneral}
use Rattle.ap_freeness.specs.Free.{IsVar}
use Rattle.ap_absunify.specs.MostGeneral.{MostGeneral}
use Rattle.ap_absunify.proofs.Vars.{refuted, fixed}
use Rattle.ap_sharing.proofs.Elements.{same_test}
use Rattle.ap_term.proofs.Copies.{instance_var}
use Rattle.ap_term.proofs.Solutions.{same_var, instance_agree}
use Rattle.ap_term.proofs.Solvable.{occurs_check, mgu-general}

-- where there is a unifier there is a most general one
pub complete : (a b : Tree) (k : ℕ → Tree) → instance k a ≡ instance k b → (u : ℕ → Tree) × MostGeneral a b u
complete a b k e = go (mgu a b) (mgu-general a b)
  where
    go : (o : Option Subst) → IsMostGeneral a b o → (u : ℕ → Tree) × MostGeneral a b u
    go None n = absurd (n k e)
    go (Some s) m = (value s, m)

-- u with another tree for one variable
abbrev pub but : ℕ → Tree → (ℕ → Tree) → ℕ → Tree
but v t u y = cond (nat_eq y v) t (u y)

pub but_same : (v : ℕ) (t : Tree) (u : ℕ → Tree) → but v t u v ≡ t
but_same v t u = ap (λ b. cond b t (u v)) (same_test v)

pub but_other : (v : ℕ) (t : Tree) (u : ℕ → Tree) (y : ℕ) → nat_eq y v ≡ false → but v t u y ≡ u y
but_other v t u y h = ap (λ b. cond b t (u y)) h

pub apart_vars : (v y : ℕ) (t : Tree) → occurs v t ≡ false → occurs y t ≡ true → nat_eq y v ≡ false
apart_vars v y t h k = refuted (nat_eq y v) (λ e. let q : y ≡ v = same_var y v e in let r : true ≡ false = sym k ∙ ap (λ z. occurs z t) q ∙ h in false≢true (sym r))

pub but_absent : (v : ℕ) (t : Tree) (u : ℕ → Tree) (a : Tree) → occurs v a ≡ false → instance (but v t u) a ≡ instance u a
but_absent v t u a h = instance_agree (but v t u) u a (λ y o. but_other v t u y (apart_vars v y a h o))

module _ (a b : Tree) (u : ℕ → Tree) (m : MostGeneral a b u) where
  -- another tree for a variable that isn't there unifies as well
  absorbs : (v : ℕ) (t : Tree) → occurs v a ≡ false → occurs v b ≡ false → (x : ℕ) → instance (but v t u) (u x) ≡ but v t u x
  absorbs v t h k = m.1 (but v t u) (but_absent v t u a h ∙ m.0 ∙ sym (but_absent v t u b k))

  lone : (v : ℕ) (t : Tree) → ((k : ℕ) → instance (but v (atom k) u) t ≡ atom k) → t ≡ var v
  lone v (var z) h = go (nat_eq z v) refl
    where
      go : (c : Bool) → nat_eq z v ≡ c → var z ≡ var v
      go true e = ap var (same_var z v e)
      go false e =
          let p : u z ≡ atom 0 = sym (but_other v (atom 0) u z e) ∙ h 0 in
          let q : u z ≡ atom 1 = sym (but_other v (atom 1) u z e) ∙ h 1 in
          let r : atom 0 ≡ atom 1 = sym p ∙ q in
          absurd (cc)
  lone v (int z) h = let p = h 0 in absurd (cc)
  lone v (atom c) h = let p = h 0 in let q = h 1 in let r : atom 0 ≡ atom 1 = sym p ∙ q in absurd (cc)
  lone v (node c ts) h = let p = h 0 in absurd (cc)

  -- a variable of neither tree stays
  pub stays : (v : ℕ) → occurs v a ≡ false → occurs v b ≡ false → u v ≡ var v
  stays v h k = lone v (u v) (λ c. absorbs v (atom c) h k v ∙ but_same v (atom c) u)

  -- and comes into no other's place
  pub none_new : (w v : ℕ) → occurs w a ≡ false → occurs w b ≡ false → nat_eq v w ≡ false → occurs w (u v) ≡ false
  none_new w v h k ne = refuted (occurs w (u v)) go
    where
      go : occurs w (u v) ≡ true → ⊥
      go o =
          let p : instance (but w (atom 0) u) (u v) ≡ u v = absorbs w (atom 0) h k v ∙ but_other w (atom 0) u v ne in
          let q : but w (atom 0) u w ≡ var w = fixed (but w (atom 0) u) w (u v) p o in
          let r : atom 0 ≡ var w = sym (but_same w (atom 0) u) ∙ q in
          cc

  pub swapped : MostGeneral b a u
  swapped = (sym m.0, λ f e. m.1 f (sym e))

pub instance_is_var : (f : ℕ → Tree) (t : Tree) (z : ℕ) → instance f t ≡ var z → IsVar t
instance_is_var f (var x) z h = (x, refl)
instance_is_var f (int y) z h = absurd (cc)
instance_is_var f (atom a) z h = absurd (cc)
instance_is_var f (node a ts) z h = absurd (cc)

-- ---- where the first tree is a variable

binds_unifies : (p : ℕ) (b : Tree) → occurs p b ≡ false → instance (but p b (λ y. var y)) (var p) ≡ instance (but p b (λ y. var y)) b
binds_unifies p b h = but_same p b (λ y. var y) ∙ sym (but_absent p b (λ y. var y) b h ∙ instance_var b)

pub one_left : (p : ℕ) (b : Tree) (u : ℕ → Tree) → MostGeneral (var p) b u → occurs p b ≡ false → ((z : ℕ) → b ≡ var z → ⊥) → (v : ℕ) → occurs v b ≡ true → u v ≡ var v
one_left p b u m h ne v o = let (z, iz) = instance_is_var (but p b (λ y. var y)) (u v) v e in step z iz (nat_eq z p) refl
  where
    e : instance (but p b (λ y. var y)) (u v) ≡ var v
    e = m.1 (but p b (λ y. var y)) (binds_unifies p b h) v ∙ but_other p b (λ y. var y) v (apart_vars p v b h o)

    back : (z : ℕ) → u v ≡ var z → but p b (λ y. var y) z ≡ var v
    back z iz = sym (ap (instance (but p b (λ y. var y))) iz) ∙ e

    step : (z : ℕ) → u v ≡ var z → (c : Bool) → nat_eq z p ≡ c → u v ≡ var v
    step z iz true k = absurd (ne v (sym (but_same p b (λ y. var y)) ∙ ap (but p b (λ y. var y)) (sym (same_var z p k)) ∙ back z iz))
    step z iz false k = iz ∙ sym (but_other p b (λ y. var y) z k) ∙ back z iz

still_absent : (p : ℕ) (b : Tree) (u : ℕ → Tree) → MostGeneral (var p) b u → occurs p b ≡ false → (r : ℕ) → nat_eq r p ≡ false → IsVar (u r)
still_absent p b u m h r ne =
    instance_is_var (but p b (λ y. var y)) (u r) r (m.1 (but p b (λ y. var y)) (binds_unifies p b h) r ∙ but_other p b (λ y. var y) r ne)

still_same : (p : ℕ) (u : ℕ → Tree) → MostGeneral (var p) (var p) u → (r : ℕ) → IsVar (u r)
still_same p u m r = instance_is_var (λ y. var y) (u r) r (m.1 (λ y. var y) refl r)

pub not_there : (p : ℕ) (b : Tree) (u : ℕ → Tree) → MostGeneral (var p) b u → (b ≡ var p → ⊥) → occurs p b ≡ false
not_there p b u m ne = occurs_check u p b ne m.0

-- a variable other than the first tree stays a variable
pub still_var : (p : ℕ) (b : Tree) (u : ℕ → Tree) → MostGeneral (var p) b u → (r : ℕ) → nat_eq r p ≡ false → IsVar (u r)
still_var p (var q) u m r ne = go (nat_eq p q) refl
  where
    go : (c : Bool) → nat_eq p q ≡ c → IsVar (u r)
    go true e = still_same p u (subst (λ z. MostGeneral (var p) (var z) u) (sym (same_var p q e)) m) r
    go false e = still_absent p (var q) u m e r ne
still_var p (int z) u m r ne = still_absent p (int z) u m refl r ne
still_var p (atom a) u m r ne = still_absent p (atom a) u m refl r ne
still_var p (node a ts) u m r ne = still_absent p (node a ts) u m (not_there p (node a ts) u m (λ e. cc)) r ne

-- of two variables each variable stays one
pub still_vars : (p q : ℕ) (u : ℕ → Tree) → MostGeneral (var p) (var q) u → (r : ℕ) → IsVar (u r)
still_vars p q u m r = go (nat_eq r p) refl
  where
    go : (c : Bool) → nat_eq r p ≡ c → IsVar (u r)
    go false e = still_var p (var q) u m r e
    go true e = here (nat_eq p q) refl
      where
        here : (d : Bool) → nat_eq p q ≡ d → IsVar (u r)
        here true k = still_same p u (subst (λ z. MostGeneral (var p) (var z) u) (sym (same_var p q k)) m) r
        here false k = subst IsVar (sym m.0 ∙ ap u (sym (same_var r p e))) (still_var p (var q) u m q (refuted (nat_eq q p) (λ j. false≢true (sym k ∙ ap (nat_eq p) (same_var q p j) ∙ same_test p))))
