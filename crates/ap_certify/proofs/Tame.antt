-- What an answer binds and mentions: of the variables below n those of the call alone, and new ones from n on.
use Rattle.std.proofs.Common.{◌≡◌, ℕ, ℤ, ◌+◌, ◌<◌, ◌≤◌, ◌⊎◌, inl, inr, Bool, true, false, not, ◌||◌, ◌==◌, if◌then◌else◌, IsTrue, nat_eq, nat_le, is_none, List, [], Option, Some, None, refl, ap, sym, ◌∙◌, subst, arith}
use Rattle.std.proofs.lemmas.Bool.{false≢true, and_parts, leb-true}
use Rattle.ap_term.specs.declared.fixed.TheConstants.{TRUE, FAIL}
use Rattle.ap_term.specs.declared.builtins.Relation.{Relation}
use Rattle.ap_term.specs.declared.builtins.Relation.TheVariants.{Unify, NotUnify, Same, NotSame, Is, Compare}
use Rattle.ap_term.specs.Tree.{Tree, var, int, atom, node, none, more}
use Rattle.ap_term.specs.Vars.{occurs}
use Rattle.ap_term.specs.WellFormed.{in_range, numbered}
use Rattle.ap_term.specs.Substitution.{instance, Subst, value, shift}
use Rattle.ap_term.specs.Unification.{mgu}
use Rattle.ap_term.specs.Unifier.{IsMostGeneral}
use Rattle.ap_term.specs.Arithmetic.{eval, compare_values}
use Rattle.ap_term.specs.Identical.{identical}
use Rattle.ap_term.specs.Builtins.{relation_named, succeeds_if, unified_value, named_answer, builtin}
use Rattle.ap_term.specs.Goals.{Part, Clause, Program}
use Rattle.ap_term.proofs.Solvable.{mgu-general}
use Rattle.ap_term.proofs.Solutions.{same_var}
use Rattle.ap_sharing.proofs.Elements.{clash}
use Rattle.ap_absunify.specs.MostGeneral.{MostGeneral}
use Rattle.ap_absunify.proofs.Vars.{decide, refuted, any_some, occurs_instance}
use Rattle.ap_absunify.proofs.Unifier.{stays, none_new}
use Rattle.ap_tracked.specs.Tracked.{IsOneOf}
use Rattle.ap_tracked.proofs.Untracked.{numbered-range}
use Rattle.ap_certify.proofs.Runs.{after_head, Ans, answered, by, Body, done, goal, joined}

-- of the variables below n, s binds those of V alone, to terms with variables of V and variables from n to m
pub record Tame (V : ℕ → Type 0) (n : ℕ) (s : ℕ → Tree) (m : ℕ) : Type 0 where
  pub grows : n ≤ m
  pub others : (r : ℕ) → r < n → (V r → ⊥) → s r ≡ var r
  pub fresh : (r w : ℕ) → V r → occurs w (s r) ≡ true → V w ⊎ ((n ≤ w) × (w < m))

-- V and the variables from n to m
abbrev pub Wider : (ℕ → Type 0) → ℕ → ℕ → ℕ → Type 0
Wider V n m w = V w ⊎ ((n ≤ w) × (w < m))

pub tame_var : (V : ℕ → Type 0) (n m : ℕ) → n ≤ m → Tame V n (λ x. var x) m
tame_var V n m l = record { grows = l; others = λ r l h. refl; fresh = λ r w v o. inl (subst V (sym (same_var w r o)) v) }

pub tame_then : (V : ℕ → Type 0) (n m l : ℕ) (k s : ℕ → Tree) → Tame V n k m → Tame (Wider V n m) m s l → Tame V n (λ x. instance s (k x)) l
tame_then V n m l k s a b = record {
  grows = omega (arith, a.grows, b.grows);
  others = λ r lt h. ap (instance s) (a.others r lt h) ∙ b.others r (omega (arith, a.grows)) (λ v. out r lt h v);
  fresh = λ r w v o.
      let p = any_some (λ x. occurs w (s x)) (k r) (sym (occurs_instance w s (k r)) ∙ o) in
      back w (b.fresh p.0 w (a.fresh r p.0 v p.1) p.2);
}
  where
    out : (r : ℕ) → r < n → (V r → ⊥) → V r ⊎ ((n ≤ r) × (r < m)) → ⊥
    out r lt h (inl v) = h v
    out r lt h (inr q) = let x = q.0 in absurd (omega arith)

    back : (w : ℕ) → (V w ⊎ ((n ≤ w) × (w < m))) ⊎ ((m ≤ w) × (w < l)) → V w ⊎ ((n ≤ w) × (w < l))
    back w (inl (inl v)) = inl v
    back w (inl (inr q)) = inr (q.0, omega (arith, q.1, b.grows))
    back w (inr q) = inr (omega (arith, q.0, a.grows), q.1)

-- a unifier of trees with variables of V, and of some from n to m
pub tame_unifier : (V : ℕ → Type 0) (n m : ℕ) (a b : Tree) (u : ℕ → Tree) → n ≤ m → MostGeneral a b u
    → ((r : ℕ) → occurs r a ≡ true → V r ⊎ ((n ≤ r) × (r < m))) → ((r : ℕ) → occurs r b ≡ true → V r ⊎ ((n ≤ r) × (r < m))) → Tame V n u m
tame_unifier V n m a b u le g ha hb = record {
  grows = le;
  others = λ r lt h. stays a b u g r (refuted (occurs r a) (λ o. out r lt h (ha r o))) (refuted (occurs r b) (λ o. out r lt h (hb r o)));
  fresh = λ r w v o. go r w v o (decide (occurs w a)) (decide (occurs w b)) (decide (nat_eq r w));
}
  where
    out : (r : ℕ) → r < n → (V r → ⊥) → V r ⊎ ((n ≤ r) × (r < m)) → ⊥
    out r lt h (inl v) = h v
    out r lt h (inr q) = let x = q.0 in absurd (omega arith)

    go : (r w : ℕ) → V r → occurs w (u r) ≡ true → (occurs w a ≡ true) ⊎ (occurs w a ≡ false) → (occurs w b ≡ true) ⊎ (occurs w b ≡ false)
        → (nat_eq r w ≡ true) ⊎ (nat_eq r w ≡ false) → V w ⊎ ((n ≤ w) × (w < m))
    go r w v o (inl i) j e = ha w i
    go r w v o (inr i) (inl j) e = hb w j
    go r w v o (inr i) (inr j) (inl e) = inl (subst V (same_var r w e) v)
    go r w v o (inr i) (inr j) (inr e) = absurd (clash (occurs w (u r)) o (none_new a b u g w r i j e))

-- a tame substitution keeps trees in V
pub tame_keeps : (V : ℕ → Type 0) (n m : ℕ) (k : ℕ → Tree) (t : Tree) → Tame V n k m → ((r : ℕ) → occurs r t ≡ true → V r) → (w : ℕ) → occurs w (instance k t) ≡ true → Wider V n m w
tame_keeps V n m k t a h w o = let p = any_some (λ x. occurs w (k x)) t (sym (occurs_instance w k t) ∙ o) in a.fresh p.0 w (h p.0 p.1) p.2

pub below : (V : ℕ → Type 0) (n m : ℕ) → n ≤ m → ((r : ℕ) → V r → r < n) → (r : ℕ) → Wider V n m r → r < m
below V n m le h r (inl v) = omega (arith, h r v)
below V n m le h r (inr q) = q.1

-- ---- heads

pub in_range-bounds : (n x : ℕ) → in_range n x ≡ true → (0 < x) × (x ≤ n)
in_range-bounds n x h =
    let r = and_parts (nat_le 1 x) (nat_le x n) h in
    let a : 1 ≤ x = leb-true 1 x r.0 in
    let b : x ≤ n = leb-true x n r.1 in
    (omega arith, b)

abbrev pub GoodHeads : Program → Type 0
GoodHeads A = (c : Clause) → IsOneOf c A → IsTrue (numbered c.vars c.head)

head_vars : (c : Clause) (n : ℕ) → IsTrue (numbered c.vars c.head) → (r : ℕ) → occurs r (instance (shift n) c.head) ≡ true → (n ≤ r) × (r < n + (c.vars + 1))
head_vars c n mine r o =
    let p = any_some (λ x. occurs r (var (x + n))) c.head (sym (occurs_instance r (shift n) c.head) ∙ o) in
    let q = in_range-bounds c.vars p.0 (numbered-range c.vars c.head mine p.0 p.1) in
    let e : r ≡ p.0 + n = same_var r (p.0 + n) p.2 in
    let l : p.0 ≤ c.vars = q.1 in
    (omega arith, omega arith)

pub own_wider : (V : ℕ → Type 0) (g : Tree) (n : ℕ) (c : Clause) (u : ℕ → Tree) → ((r : ℕ) → occurs r g ≡ true → V r) → MostGeneral g (instance (shift n) c.head) u
    → IsTrue (numbered c.vars c.head) → (x r : ℕ) → occurs r (after_head c n u x) ≡ true → Wider V n (n + (c.vars + 1)) r
own_wider V g n c u sub m mine x r o = go (in_range c.vars x) refl o
  where
    inner : (y : ℕ) → n ≤ y → y < n + (c.vars + 1) → occurs r (u y) ≡ true → (occurs r g ≡ true) ⊎ (occurs r g ≡ false)
        → (occurs r (instance (shift n) c.head) ≡ true) ⊎ (occurs r (instance (shift n) c.head) ≡ false)
        → (nat_eq y r ≡ true) ⊎ (nat_eq y r ≡ false) → Wider V n (n + (c.vars + 1)) r
    inner y a b k (inl i) j e = inl (sub r i)
    inner y a b k (inr i) (inl j) e = inr (head_vars c n mine r j)
    inner y a b k (inr i) (inr j) (inl e) = let q : y ≡ r = same_var y r e in inr (omega arith, omega arith)
    inner y a b k (inr i) (inr j) (inr e) = absurd (clash (occurs r (u y)) k (none_new g (instance (shift n) c.head) u m r y i j e))

    go : (b : Bool) → in_range c.vars x ≡ b → occurs r (instance u (if b then var (x + n) else atom 0)) ≡ true → Wider V n (n + (c.vars + 1)) r
    go true e k =
        let q = in_range-bounds c.vars x e in
        let l : x ≤ c.vars = q.1 in
        inner (x + n) (omega arith) (omega arith) k (decide (occurs r g)) (decide (occurs r (instance (shift n) c.head))) (decide (nat_eq (x + n) r))
    go false e k = absurd (false≢true k)

-- ---- built-in goals

general : (a b : Tree) (d : Subst) → mgu a b ≡ Some d → MostGeneral a b (value d)
general a b d e = subst (IsMostGeneral a b) e (mgu-general a b)

unbound : (V : ℕ → Type 0) (n : ℕ) (t : Bool) (b : Subst) → Some (succeeds_if t) ≡ Some (Some b) → Tame V n (value b) (n + 0)
unbound V n true b h = let e : [] ≡ b = cc in subst (λ d. Tame V n (value d) (n + 0)) e (tame_var V n (n + 0) (omega arith))
unbound V n false b h = absurd (cc)

relation_tame : (V : ℕ → Type 0) (n : ℕ) (r : Option Relation) (t u : Tree) (b : Subst) → named_answer r t u ≡ Some (Some b)
    → ((w : ℕ) → occurs w t ≡ true → V w) → ((w : ℕ) → occurs w u ≡ true → V w) → Tame V n (value b) (n + 0)
relation_tame V n None t u b h vt vu = absurd (cc)
relation_tame V n (Some Unify) t u b h vt vu =
    let e : mgu t u ≡ Some b = cc in
    tame_unifier V n (n + 0) t u (value b) (omega arith) (general t u b e) (λ r o. inl (vt r o)) (λ r o. inl (vu r o))
relation_tame V n (Some NotUnify) t u b h vt vu = unbound V n (is_none (mgu t u)) b h
relation_tame V n (Some Same) t u b h vt vu = unbound V n (identical t u) b h
relation_tame V n (Some NotSame) t u b h vt vu = unbound V n (not (identical t u)) b h
relation_tame V n (Some Is) t u b h vt vu = let e : unified_value t (eval u) ≡ Some b = cc in go (eval u) e
  where
    go : (o : Option ℤ) → unified_value t o ≡ Some b → Tame V n (value b) (n + 0)
    go None q = absurd (cc)
    go (Some z) q = tame_unifier V n (n + 0) t (int z) (value b) (omega arith) (general t (int z) b q) (λ r o. inl (vt r o)) (λ r o. absurd (false≢true o))
relation_tame V n (Some (Compare o)) t u b h vt vu = unbound V n (compare_values o (eval t) (eval u)) b h

builtin_tame : (V : ℕ → Type 0) (n : ℕ) (g : Tree) (b : Subst) → builtin g ≡ Some (Some b) → ((r : ℕ) → occurs r g ≡ true → V r) → Tame V n (value b) (n + 0)
builtin_tame V n (var x) b h v = absurd (cc)
builtin_tame V n (int z) b h v = absurd (cc)
builtin_tame V n (atom a) b h v = go (a == TRUE) (a == FAIL) h
  where
    go : (x y : Bool) → (if x then Some (Some []) else (if y then Some None else None)) ≡ Some (Some b) → Tame V n (value b) (n + 0)
    go true y e = let k : [] ≡ b = cc in subst (λ d. Tame V n (value d) (n + 0)) k (tame_var V n (n + 0) (omega arith))
    go false true e = absurd (cc)
    go false false e = absurd (cc)
builtin_tame V n (node a none) b h v = absurd (cc)
builtin_tame V n (node a (more t none)) b h v = absurd (cc)
builtin_tame V n (node a (more t (more u none))) b h v =
    relation_tame V n (relation_named a) t u b h (λ w o. v w (ap (λ x. x || (occurs w u || false)) o)) (λ w o. v w (right (occurs w t) (ap (λ x. x || false) o)))
  where
    right : (p : Bool) {q : Bool} → q ≡ true → (p || q) ≡ true
    right true k = refl
    right false k = k
builtin_tame V n (node a (more t (more u (more w ws)))) b h v = absurd (cc)

-- ---- answers

mutual
  pub ans_tame : (A : Program) → GoodHeads A → {g : Tree} {n m : ℕ} {k : ℕ → Tree} → Ans A g n k m → (V : ℕ → Type 0) → ((r : ℕ) → occurs r g ≡ true → V r) → ((r : ℕ) → V r → r < n)
      → Tame V n k m
  ans_tame A good {g = g} {n = n} (answered b e) V sub lt = builtin_tame V n g b e sub
  ans_tame A good {g = g} {n = n} {m = m} (by u s c i e mg b) V sub lt =
      let t = tame_unifier V n (n + (c.vars + 1)) g (instance (shift n) c.head) u (omega arith) mg (λ r o. inl (sub r o)) (λ r o. inr (head_vars c n (good c i) r o)) in
      tame_then V n (n + (c.vars + 1)) m u s t
      (body_tame A good b (Wider V n (n + (c.vars + 1))) (own_wider V g n c u sub mg (good c i)) (below V n (n + (c.vars + 1)) (omega arith) lt))

  pub body_tame : (A : Program) → GoodHeads A → {ps : List Part} {f s : ℕ → Tree} {n l : ℕ} → Body A ps f n s l → (V : ℕ → Type 0) → ((x r : ℕ) → occurs r (f x) ≡ true → V r) → ((r : ℕ) → V r → r < n)
      → Tame V n s l
  body_tame A good {n = n} done V h lt = tame_var V n n (omega arith)
  body_tame A good {n = n} {l = l} (goal {g = g} {f = f} k s m a b) V h lt =
      let sub : (r : ℕ) → occurs r (instance f g) ≡ true → V r =
      λ r o. let p = any_some (λ x. occurs r (f x)) g (sym (occurs_instance r f g) ∙ o) in h p.0 r p.2 in
      let t = ans_tame A good a V sub lt in
      tame_then V n m l k s t (body_tame A good b (Wider V n m) (λ x r o. tame_keeps V n m k (f x) t (h x) r o) (below V n m t.grows lt))
  body_tame A good {n = n} {l = l} (joined {f = f} k s m a b) V h lt =
      let t = body_tame A good a V h lt in
      tame_then V n m l k s t (body_tame A good b (Wider V n m) (λ x r o. tame_keeps V n m k (f x) t (h x) r o) (below V n m t.grows lt))
