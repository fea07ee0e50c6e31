-- A goal's answer under other names, put in the goal's place.
use Rattle.std.proofs.Common.{◌≡◌, ℕ, ◌+◌, ◌-◌, ◌<◌, ◌≤◌, ◌⊎◌, inl, inr, Bool, true, false, ◌||◌, cond, if◌then◌else◌, [], refl, ap, sym, ◌∙◌, subst, arith}
use Rattle.std.proofs.lemmas.Bool.{false≢true, or_left, or_right}
use Rattle.ap_term.specs.Tuples.{arguments}
use Rattle.ap_term.specs.Tree.{Tree, Trees, var, int, atom, node, none, more}
use Rattle.ap_term.specs.Vars.{occurs, occurs_all, LocalAll}
use Rattle.ap_term.specs.Substitution.{instance, instance_all, value}
use Rattle.ap_term.proofs.Copies.{instance_all_twice}
use Rattle.ap_term.proofs.Solutions.{same_var, same_test}
use Rattle.ap_term.proofs.Locals.{LocalAll-occurs_all, LocalAll-each, LocalAll-instance_all}
use Rattle.ap_laws.specs.Renaming.{Renamed, RenamedAll, Linked}
use Rattle.ap_laws.specs.Plain.{state}
use Rattle.ap_laws.specs.Graft.{fit_all, lifted, lifted_var, lowered, fitted, IsOwn, IsOf}
use Rattle.ap_laws.specs.Laws.{CopiedAnswerLaw}
use Rattle.ap_laws.proofs.Ways.{IsOneToOne-Linked, Renamed-both, RenamedAll-both, RenamedParts-both}
use Rattle.ap_laws.proofs.Names.{RenamedAll-is, LocalAll-RenamedAll}
use Rattle.ap_laws.proofs.Graft.{value-fit_all, LocalAll-at, lifted-old, lifted-new, Linked-lifted, fitted-value}
use Rattle.std.proofs.lemmas.Bool.{cases_lt}

mutual
  -- what a variable becomes stands in the instance
  occurs-instance : (f : ℕ → ℕ) (x : ℕ) (t : Tree) → occurs x t ≡ true → occurs (f x) (instance (λ y. var (f y)) t) ≡ true
  occurs-instance f x (var y) o = same_test (f x) (f y) (ap f (same_var x y o))
  occurs-instance f x (int z) o = absurd (false≢true o)
  occurs-instance f x (atom a) o = absurd (false≢true o)
  occurs-instance f x (node a ts) o = occurs_all-instance_all f x ts o

  occurs_all-instance_all : (f : ℕ → ℕ) (x : ℕ) (ts : Trees) → occurs_all x ts ≡ true → occurs_all (f x) (instance_all (λ y. var (f y)) ts) ≡ true
  occurs_all-instance_all f x none o = absurd (false≢true o)
  occurs_all-instance_all f x (more t ts) o = go (occurs x t) refl o (occurs-instance f x t) (occurs_all-instance_all f x ts)
    where
      go : (b : Bool) → occurs x t ≡ b → (b || occurs_all x ts) ≡ true → (occurs x t ≡ true → occurs (f x) (instance (λ y. var (f y)) t) ≡ true) → (occurs_all x ts ≡ true → occurs_all (f x) (instance_all (λ y. var (f y)) ts) ≡ true)
          → occurs_all (f x) (instance_all (λ y. var (f y)) (more t ts)) ≡ true
      go true e p here ih = or_left (occurs (f x) (instance (λ y. var (f y)) t)) (occurs_all (f x) (instance_all (λ y. var (f y)) ts)) (here e)
      go false e p here ih = or_right (occurs (f x) (instance (λ y. var (f y)) t)) (occurs_all (f x) (instance_all (λ y. var (f y)) ts)) (ih p)

module _ (g : Tree) (b n m j n' : ℕ) (U V : Trees) (f h : ℕ → ℕ) (bn : b ≤ n) (nn : n ≤ n') (o : IsOf g b (state none U m j)) (r : RenamedAll (Linked f h m n') U V) (fresh : LocalAll (λ x. n ≤ x) V) where
  -- the renaming: the answer's variables go to the copy's, and the others stay
  pub forth : ℕ → ℕ
  forth x = if occurs_all x (instance_all (lifted_var b n) U) then f (lowered b n x) else x

  pub back : ℕ → ℕ
  back y = if occurs_all y V then lifted b n (h y) else y

  abbrev pub R : ℕ → ℕ → Type 0
  R = Linked forth back (n + (m - b)) n'

  copy_is : V ≡ instance_all (λ x. var (f x)) U
  copy_is = RenamedAll-is f h m n' U V r

  of_answer : (z : ℕ) → occurs_all z U ≡ true → R (lifted b n z) (f z)
  unfolding forth back
  of_answer z p = (
    ap (λ c. if c then f (lowered b n (lifted b n z)) else lifted b n z) (occurs_all-instance_all (lifted b n) z U p) ∙ ap f low.1,
    ap (λ c. if c then lifted b n (h (f z)) else f z) (subst (λ W. occurs_all (f z) W ≡ true) (sym copy_is) (occurs_all-instance_all f z U p)) ∙ ap (lifted b n) comes_back,
    low.3,
    LocalAll-occurs_all (λ x. f x < n') U (LocalAll-RenamedAll (Linked f h m n') (λ x. f x < n') (λ x y k. subst (λ v. v < n') (sym k.0) k.3) U V r) z p,
  )
    where
      low : Linked (lifted b n) (lowered b n) m (n + (m - b)) z (lifted b n z)
      low = Linked-lifted b n m (n + (m - b)) bn o.4 refl z (LocalAll-occurs_all (λ x. x < m) U (LocalAll-RenamedAll (Linked f h m n') (λ x. x < m) (λ x y k. k.2) U V r) z p)

      comes_back : h (f z) ≡ z
      comes_back = LocalAll-occurs_all (λ x. h (f x) ≡ x) U (LocalAll-RenamedAll (Linked f h m n') (λ x. h (f x) ≡ x) (λ x y k. ap h k.0 ∙ k.1) U V r) z p

  old_of_goal : LocalAll (λ x. x < n → occurs_all x (arguments g) ≡ true) (instance_all (lifted_var b n) U)
  old_of_goal = LocalAll-instance_all (IsOwn g b m) (λ x. x < n → occurs_all x (arguments g) ≡ true) (lifted_var b n) each U o.3
    where
      each : (z : ℕ) → IsOwn g b m z → lifted b n z < n → occurs_all (lifted b n z) (arguments g) ≡ true
      each z p l = go (cases_lt z b)
        where
          go : (z < b) ⊎ (b ≤ z) → occurs_all (lifted b n z) (arguments g) ≡ true
          go (inl k) = subst (λ v. occurs_all v (arguments g) ≡ true) (sym (lifted-old b n z k)) (p.1 k)
          go (inr k) = let e : lifted b n z ≡ n + (z - b) = lifted-new b n z k in absurd (omega (arith, e, l))

  of_others : (x : ℕ) → x < n → occurs_all x (arguments g) ≡ false → R x x
  unfolding forth back
  of_others x l p = (stays (occurs_all x (instance_all (lifted_var b n) U)) refl, stays_there (occurs_all x V) refl, omega arith, omega arith)
    where
      stays : (c : Bool) → occurs_all x (instance_all (lifted_var b n) U) ≡ c → (if c then f (lowered b n x) else x) ≡ x
      stays true e = absurd (false≢true (sym p ∙ LocalAll-occurs_all (λ y. y < n → occurs_all y (arguments g) ≡ true) (instance_all (lifted_var b n) U) old_of_goal x e l))
      stays false e = refl

      stays_there : (c : Bool) → occurs_all x V ≡ c → (if c then lifted b n (h x) else x) ≡ x
      stays_there true e = let k : n ≤ x = LocalAll-occurs_all (λ y. n ≤ y) V fresh x e in absurd (omega arith)
      stays_there false e = refl

  -- what a variable becomes is the same up to names
  pub fitted-copy : (x : ℕ) → x < n → Renamed R (fitted g b n U x) (value (fit_all (arguments g) V []) x)
  fitted-copy x l =
      subst (λ t. Renamed R t (value (fit_all (arguments g) V []) x)) (sym (fitted-value g b n o.0 U o.1 x))
      (subst (λ t. Renamed R (cond (occurs_all x (arguments g)) (instance (lifted_var b n) (o.0 x)) (var x)) t) (sym there) (go (occurs_all x (arguments g)) refl))
    where
      there : value (fit_all (arguments g) V []) x ≡ cond (occurs_all x (arguments g)) (instance (λ y. var (f y)) (o.0 x)) (var x)
      there =
          ap (λ W. value (fit_all (arguments g) W []) x) (copy_is ∙ ap (instance_all (λ y. var (f y))) o.1 ∙ instance_all_twice o.0 (λ y. var (f y)) (arguments g))
          ∙ value-fit_all (λ y. instance (λ z. var (f z)) (o.0 y)) (arguments g) [] x

      go : (c : Bool) → occurs_all x (arguments g) ≡ c → Renamed R (cond c (instance (lifted_var b n) (o.0 x)) (var x)) (cond c (instance (λ y. var (f y)) (o.0 x)) (var x))
      go true e =
          Renamed-both (λ z. occurs_all z U ≡ true) R (lifted_var b n) (λ y. var (f y)) of_answer (o.0 x)
          (LocalAll-at (λ z. occurs_all z U ≡ true) o.0 (arguments g) (subst (LocalAll (λ z. occurs_all z U ≡ true)) o.1 (LocalAll-each (λ z. occurs_all z U ≡ true) U (λ z q. q))) x e)
      go false e = of_others x l e

pub copied : CopiedAnswerLaw
copied g b n m j k n' U V f h ps T bn nn o r fresh hp hT = (
  forth g b n m j n' U V f h bn nn o r fresh,
  back g b n m j n' U V f h bn nn o r fresh,
  (
    RenamedParts-both (λ x. x < n) (R g b n m j n' U V f h bn nn o r fresh) (IsOneToOne-Linked _ _ (n + (m - b)) n') (fitted g b n U) (value (fit_all (arguments g) V []))
        (fitted-copy g b n m j n' U V f h bn nn o r fresh) ps hp,
    RenamedAll-both (λ x. x < n) (R g b n m j n' U V f h bn nn o r fresh) (fitted g b n U) (value (fit_all (arguments g) V [])) (fitted-copy g b n m j n' U V f h bn nn o r fresh) T hT,
    refl,
    refl,
  ),
)
