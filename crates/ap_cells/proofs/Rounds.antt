-- What cells stand for is one list of trees, which `trees` finds.
pub use Rattle.std.proofs.lemmas.Bool.{or_cases as or_split}
use Rattle.std.proofs.Common.{◌≡◌, ℕ, zero, suc, ◌+◌, ◌<◌, ◌≤◌, Bool, true, List, [], ◌∷◌, length, get_or, refl, sym, ap, ◌∙◌, subst, arith, inl, inr, ◌⊎◌}
use Rattle.std.proofs.Math.Bool.{or-true}
use Rattle.std.proofs.lemmas.List.{get_or-map, get_or_default, length-map, same_lists, get_or_past}
use Rattle.std.proofs.lemmas.Bool.{cases_lt, cases_eq}
use Rattle.ap_term.specs.Tree.{Tree, Trees, var, int, atom, node, none, more}
use Rattle.ap_term.specs.Substitution.{instance, instance_all, value, one}
use Rattle.ap_term.specs.Vars.{occurs, occurs_all}
use Rattle.ap_term.proofs.Copies.{instance_var, instance_twice}
use Rattle.ap_term.proofs.Solutions.{same_var, same_test, one_absorbed, instance_same, instance_agree}
use Rattle.ap_term.proofs.Solvable.{occurs_check}
use Rattle.ap_cells.specs.declared.cells.Raw.{Raw}
use Rattle.ap_cells.specs.declared.cells.Raw.TheVariants.{Free, Same, Int, Atom, Node}
use Rattle.ap_cells.specs.Trees.{tree_at, span, step, Within, Stand, flat, put_in, rounds, trees}
use Rattle.ap_cells.proofs.Stands.{one-other}
use Rattle.ap_term.proofs.Solutions.{one_here}

-- some rounds made
record Round (cs : List Raw) (ts us : List Tree) (k : ℕ) : Type 0 where
  len : length us ≡ length cs
  stands : (i : ℕ) → i < length cs → instance (tree_at ts) (tree_at us i) ≡ tree_at ts i
  gone : (i j : ℕ) (d : Raw) → i < length cs → j < k → occurs j (tree_at us i) ≡ true → get_or cs j d ≡ Free
  down : (i x : ℕ) (d : Raw) → i < length cs → tree_at us i ≡ var x → (x ≤ i) × (x ≡ i → get_or cs i d ≡ Free)

flat-length : (k : ℕ) (cs : List Raw) → length (flat k cs) ≡ length cs
flat-length k [] = refl
flat-length k (c ∷ cs) = ap suc (flat-length (k + 1) cs)

flat-at : (k : ℕ) (cs : List Raw) (i : ℕ) (d : Raw) (t : Tree) → i < length cs → get_or (flat k cs) i t ≡ step [] (k + i) (get_or cs i d)
flat-at k [] i d t h = absurd (omega arith)
flat-at k (c ∷ cs) zero d t h = let e : k ≡ k + 0 = omega arith in ap (λ n. step [] n c) e
flat-at k (c ∷ cs) (suc i) d t h = flat-at (k + 1) cs i d t (omega arith) ∙ (let e : (k + 1) + i ≡ k + suc i = omega arith in ap (λ n. step [] n (get_or cs i d)) e)

span-all : (ts : List Tree) (p n : ℕ) → instance_all (tree_at ts) (span [] p n) ≡ span ts p n
span-all ts p zero = refl
span-all ts p (suc n) = ap (more (tree_at ts p)) (span-all ts (p + 1) n)

step-all : (ts : List Tree) (i : ℕ) (c : Raw) → tree_at ts i ≡ step ts i c → instance (tree_at ts) (step [] i c) ≡ tree_at ts i
step-all ts i Free e = refl
step-all ts i (Same j) e = sym e
step-all ts i (Int z) e = sym e
step-all ts i (Atom a) e = sym e
step-all ts i (Node a p n) e = ap (node a) (span-all ts p n) ∙ sym e

step-down : (n i x : ℕ) (c : Raw) → Within n i c → step [] i c ≡ var x → (x ≤ i) × (x ≡ i → c ≡ Free)
step-down n i x Free w e = let k : i ≡ x = cc in (omega arith, λ h. refl)
step-down n i x (Same j) w e = let k : j ≡ x = cc in (omega arith, λ h. absurd (omega arith))
step-down n i x (Int z) w e = cc
step-down n i x (Atom a) w e = cc
step-down n i x (Node a p m) w e = cc

start : (cs : List Raw) (ts : List Tree) → Stand cs ts → Round cs ts (flat 0 cs) 0
start cs ts s = record {
  len = flat-length 0 cs;
  stands = λ i h. ap (instance (tree_at ts)) (at i (get_or cs i Free) h) ∙ step-all ts i (get_or cs i (get_or cs i Free)) (s.each i (get_or cs i Free) h);
  gone = λ i j d h l o. absurd (omega arith);
  down = λ i x d h e. step-down (length cs) i x (get_or cs i d) (s.within i d h) (sym (at i d h) ∙ e);
}
  where
    at : (i : ℕ) (d : Raw) → i < length cs → tree_at (flat 0 cs) i ≡ step [] i (get_or cs i d)
    at i d h = flat-at 0 cs i d (var i) h ∙ (let e : 0 + i ≡ i = omega arith in ap (λ n. step [] n (get_or cs i d)) e)

-- where a variable of an instance comes from
abbrev pub From : (ℕ → Tree) → ℕ → (ℕ → Bool) → Type 0
From f j p = (y : ℕ) × (p y ≡ true) × (occurs j (f y) ≡ true)

nat_eq-self : (x : ℕ) → occurs x (var x) ≡ true
nat_eq-self x = same_test x x refl

mutual
  pub occurs-instance : (f : ℕ → Tree) (j : ℕ) (t : Tree) → occurs j (instance f t) ≡ true → From f j (λ y. occurs y t)
  occurs-instance f j (var x) h = (x, nat_eq-self x, h)
  occurs-instance f j (int z) h = cc
  occurs-instance f j (atom a) h = cc
  occurs-instance f j (node a ts) h = occurs_all-instance f j ts h

  pub occurs_all-instance : (f : ℕ → Tree) (j : ℕ) (ts : Trees) → occurs_all j (instance_all f ts) ≡ true → From f j (λ y. occurs_all y ts)
  occurs_all-instance f j none h = cc
  occurs_all-instance f j (more t ts) h = elim (or_split (occurs j (instance f t)) (occurs_all j (instance_all f ts)) h) [
    | inl p ↦ let q = occurs-instance f j t p in (q.0, rw q.1 refl, q.2)
    | inr p ↦ let q = occurs_all-instance f j ts p in (q.0, rw q.1 (or-true (occurs q.0 t)), q.2)
  ]

is_var : (x : ℕ) (t : Tree) → (t ≡ var x) ⊎ (t ≡ var x → ⊥)
is_var x (var y) = elim (cases_eq y x) [ inl e ↦ inl (ap var e) | inr n ↦ inr (λ e. n (cc)) ]
is_var x (int z) = inr (λ e. cc)
is_var x (atom a) = inr (λ e. cc)
is_var x (node a ts) = inr (λ e. cc)

-- one more round
next : (cs : List Raw) (ts us : List Tree) (k : ℕ) → k < length cs → Round cs ts us k → Round cs ts (put_in k us) (suc k)
next cs ts us k h r = record {
  len = length-map us (instance f) ∙ r.len;
  stands = λ i l. ap (instance θ) (at i l) ∙ instance_twice f θ (tree_at us i) ∙ instance_same (λ y. instance θ (f y)) θ (tree_at us i) (one_absorbed θ k t (sym (r.stands k h))) ∙ r.stands i l;
  gone = λ i j d l m o. gone i j d l m (occurs-instance f j (tree_at us i) (rw (at i l) at o));
  down = λ i x d l e. down i x d l (tree_at us i) refl (sym (at i l) ∙ e);
}
  where
    θ : ℕ → Tree
    θ = tree_at ts

    t : Tree
    t = tree_at us k

    f : ℕ → Tree
    f = value (one k t)

    at : (i : ℕ) → i < length cs → tree_at (put_in k us) i ≡ instance f (tree_at us i)
    at i l = get_or-map (instance f) us i (var i) (var i) (omega (arith, r.len))

    -- the variable k stands in its own tree only where place k is free
    own : (d : Raw) → occurs k t ≡ true → get_or cs k d ≡ Free
    own d o = elim (is_var k t) [ inl e ↦ (r.down k k d h e).1 refl | inr n ↦ let e = occurs_check θ k t n (sym (r.stands k h)) in cc ]

    gone : (i j : ℕ) (d : Raw) → i < length cs → j < suc k → From f j (λ y. occurs y (tree_at us i)) → get_or cs j d ≡ Free
    gone i j d l m q = elim (cases_eq k q.0) [
      | inl e ↦
          let o : occurs j t ≡ true = subst (λ v. occurs j v ≡ true) (sym (ap f e) ∙ one_here k t) q.2 in
          elim (cases_lt j k) [ inl b ↦ r.gone k j d h b o | inr g ↦ let p : j ≡ k = omega arith in rw p (own d (rw p at o)) ]
      | inr n ↦
          let o : occurs j (var q.0) ≡ true = subst (λ v. occurs j v ≡ true) (one-other k t q.0 n) q.2 in
          let p : j ≡ q.0 = same_var j q.0 o in
          elim (cases_lt j k) [ inl b ↦ r.gone i j d l b (rw p q.1) | inr g ↦ absurd (n (omega arith)) ]
    ]

    down : (i x : ℕ) (d : Raw) → i < length cs → (u : Tree) → tree_at us i ≡ u → instance f u ≡ var x → (x ≤ i) × (x ≡ i → get_or cs i d ≡ Free)
    down i x d l (var y) e v = elim (cases_eq k y) [
      | inl p ↦
          let w : t ≡ var x = sym (one_here k t) ∙ ap f p ∙ v in
          let a = r.down k x d h w in
          let b = r.down i y d l e in
          (omega arith, λ q. b.1 (omega arith))
      | inr n ↦ let w : var y ≡ var x = sym (one-other k t y n) ∙ v in r.down i x d l (e ∙ w)
    ]
    down i x d l (int z) e v = cc
    down i x d l (atom a) e v = cc
    down i x d l (node a vs) e v = cc

all_rounds : (cs : List Raw) (ts : List Tree) → Stand cs ts → (k : ℕ) → k ≤ length cs → Round cs ts (rounds k (flat 0 cs)) k
all_rounds cs ts s zero h = start cs ts s
all_rounds cs ts s (suc k) h = next cs ts (rounds k (flat 0 cs)) k (omega arith) (all_rounds cs ts s k (omega arith))

-- finite trees for which cells stand are the ones that `trees` finds
pub trees_are : (cs : List Raw) (ts : List Tree) → Stand cs ts → trees cs ≡ ts
unfolding trees
trees_are cs ts s = same_lists us ts (r.len ∙ sym s.len) (λ i d h. get_or_default us i d (var i) h ∙ each i (omega (arith, r.len)) ∙ get_or_default ts i (var i) d (omega (arith, r.len, s.len)))
  where
    us : List Tree
    us = rounds (length cs) (flat 0 cs)

    r : Round cs ts us (length cs)
    r = all_rounds cs ts s (length cs) (omega arith)

    bare : (i y : ℕ) → i < length cs → occurs y (tree_at us i) ≡ true → tree_at ts y ≡ var y
    bare i y h o = elim (cases_lt y (length cs)) [
      | inl l ↦ s.each y Free l ∙ ap (step ts y) (r.gone i y Free h l o)
      | inr g ↦ get_or_past ts y (var y) (omega (arith, s.len))
    ]

    each : (i : ℕ) → i < length cs → tree_at us i ≡ tree_at ts i
    each i h = sym (instance_var (tree_at us i)) ∙ sym (instance_agree (tree_at ts) (λ y. var y) (tree_at us i) (λ y o. bare i y h o)) ∙ r.stands i h

pub rounds-length : (k : ℕ) (us : List Tree) → length (rounds k us) ≡ length us
rounds-length zero us = refl
rounds-length (suc k) us = length-map (rounds k us) (instance (value (one k (tree_at (rounds k us) k)))) ∙ rounds-length k us

pub trees-length : (cs : List Raw) → length (trees cs) ≡ length cs
unfolding trees
trees-length cs = rounds-length (length cs) (flat 0 cs) ∙ flat-length 0 cs
