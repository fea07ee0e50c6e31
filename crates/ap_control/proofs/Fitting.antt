-- How the arguments of a call stand to what a head asks of them.
use Rattle.std.proofs.Common.{◌≡◌, ℕ, zero, suc, ◌+◌, ◌≤◌, List, [], ◌∷◌, ◌++◌, length, take, slice_get, Option, Some, None, Bool, true, false, refl, ap, sym, ◌∙◌, subst, arith}
use Rattle.std.specs.Prelude.{IfSome, if◌then◌else◌}
use Rattle.std.specs.List.{AllByRecursion}
use Rattle.ap_term.specs.Tree.{Tree, var, atom, int, node}
use Rattle.ap_cells.specs.declared.cells.Raw.{Raw}
use Rattle.ap_cells.specs.Trees.{tree_at, trees}
use Rattle.ap_instr.specs.Code.{Compiled}
use Rattle.ap_instr.specs.Runs.{spread}
use Rattle.ap_instr.proofs.Registers.{count-spread}
use Rattle.ap_index.specs.declared.key.Key.{Key}
use Rattle.ap_index.specs.declared.key.Key.TheVariants.{Atom, Integer, Structure}
use Rattle.ap_index.specs.declared.hashing.Hashed.{Hashed}
use Rattle.ap_index.specs.declared.head.Ask.{Ask}
use Rattle.ap_index.specs.declared.head.Head.{Head}
use Rattle.ap_index.specs.Keys.{same_key, IsKeyOf}
use Rattle.ap_index.specs.Heads.{IsMet, IsHeadOf}
use Rattle.ap_index.proofs.Same.{true-same}
use Rattle.ap_match.specs.Fits.{Fits}
use Rattle.ap_match.proofs.Maps.{fits-own}
use Rattle.ap_control.specs.declared.choosing.Fit.{Fit}
use Rattle.ap_control.specs.declared.choosing.Fit.TheVariants.{Has, Takes, Lacks, Open}
use Rattle.ap_control.specs.Heads.{IsShut}
use Rattle.ap_control.specs.Taking.{CanTake}
use Rattle.ap_control.proofs.Keys.{clash}
use Rattle.ap_control.proofs.Unifying.{takes-tree}
use Rattle.ap_control.specs.Choosing.{Under, both, chance_by, fit_known, Alike, AreFit, IsFit, IsAskFit, IsChance, HasKey}

-- two things at once
pub both-under : (cs : List Raw) (P Q : (ℕ → Tree) → Type 0) (f g : Fit) → Under cs P f → Under cs Q g → Under cs (λ k. P k × Q k) (both f g)
both-under cs P Q Has Has p q = λ k fits. (p k fits, q k fits)
both-under cs P Q Has Takes p q = (q.0, q.1, (p q.0 q.1, q.2))
both-under cs P Q Has Lacks p q = λ k fits b. q k fits b.1
both-under cs P Q Has Open p q = tt
both-under cs P Q Takes Has p q = (p.0, p.1, (p.2, q p.0 p.1))
both-under cs P Q Takes Takes p q = tt
both-under cs P Q Takes Lacks p q = λ k fits b. q k fits b.1
both-under cs P Q Takes Open p q = tt
both-under cs P Q Lacks Has p q = λ k fits b. p k fits b.0
both-under cs P Q Lacks Takes p q = λ k fits b. p k fits b.0
both-under cs P Q Lacks Lacks p q = λ k fits b. p k fits b.0
both-under cs P Q Lacks Open p q = λ k fits b. p k fits b.0
both-under cs P Q Open Has p q = tt
both-under cs P Q Open Takes p q = tt
both-under cs P Q Open Lacks p q = λ k fits b. q k fits b.1
both-under cs P Q Open Open p q = tt

pub both-has : (f : Fit) → both f Has ≡ f
both-has Has = refl
both-has Takes = refl
both-has Lacks = refl
both-has Open = refl

pub both-lacks : (f : Fit) → both f Lacks ≡ Lacks
both-lacks Has = refl
both-lacks Takes = refl
both-lacks Lacks = refl
both-lacks Open = refl

-- the same thing said in another way
pub under-same : (cs : List Raw) (P Q : (ℕ → Tree) → Type 0) (f : Fit) → ((k : ℕ → Tree) → P k → Q k) → ((k : ℕ → Tree) → Q k → P k) → Under cs P f → Under cs Q f
under-same cs P Q Has to from h = λ k fits. to k (h k fits)
under-same cs P Q Takes to from h = (h.0, h.1, to h.0 h.2)
under-same cs P Q Lacks to from h = λ k fits q. h k fits (from k q)
under-same cs P Q Open to from h = tt

all-joined : (P : Ask → Type 0) (es : List Ask) (a : Ask) → AllByRecursion P es × P a → AllByRecursion P (es ++ a ∷ [])
all-joined P [] a h = (h.1, tt)
all-joined P (e ∷ es) a h = (h.0.0, all-joined P es a (h.0.1, h.1))

all-parted : (P : Ask → Type 0) (es : List Ask) (a : Ask) → AllByRecursion P (es ++ a ∷ []) → AllByRecursion P es × P a
all-parted P [] a h = (tt, h.0)
all-parted P (e ∷ es) a h = let q = all-parted P es a h.1 in ((h.0, q.0), q.1)

-- the first ones of all
all-first : (P : Ask → Type 0) (n : ℕ) (es : List Ask) → AllByRecursion P es → AllByRecursion P (take n es)
all-first P zero [] h = tt
all-first P zero (e ∷ es) h = tt
all-first P (suc n) [] h = tt
all-first P (suc n) (e ∷ es) h = (h.0, all-first P n es h.1)

take-next : (n : ℕ) (es : List Ask) (a : Ask) → slice_get es n ≡ Some a → take (n + 1) es ≡ take n es ++ a ∷ []
take-next zero [] a e = absurd (let z : ⊥ = cc in z)
take-next zero (e ∷ es) a q = let same : e ≡ a = cc in ap (λ x. x ∷ []) same
take-next (suc n) [] a e = absurd (let z : ⊥ = cc in z)
take-next (suc n) (e ∷ es) a q = ap (λ m. take m (e ∷ es)) (let z : suc n + 1 ≡ suc (n + 1) = omega arith in z) ∙ ap (λ xs. e ∷ xs) (take-next n es a q)

-- where nothing is asked
pub fit-empty : (cs : List Raw) (x : ℕ → ℕ) (arity : ℕ) (asks : List Ask) → length asks ≤ 0 → AreFit cs x arity asks Has
fit-empty cs x arity [] few = λ z alike k fits. tt
fit-empty cs x arity (a ∷ asks) few = absurd (let z : ⊥ = omega (arith, few) in z)

module _ (cs : List Raw) (x : ℕ → ℕ) (arity : ℕ) (asks : List Ask) where
  -- of none nothing is asked
  pub fit-none : AreFit cs x arity (take 0 asks) Has
  fit-none = go asks
    where
      go : (es : List Ask) → AreFit cs x arity (take 0 es) Has
      go [] = λ z alike k fits. tt
      go (e ∷ es) = λ z alike k fits. tt

  -- one more
  pub fit-next : (n : ℕ) (a : Ask) (f g : Fit) → slice_get asks n ≡ Some a → AreFit cs x arity (take n asks) f → IsAskFit cs x arity a g → AreFit cs x arity (take (n + 1) asks) (both f g)
  fit-next n a f g stands some one = λ z alike.
      subst (λ es. Under cs (λ k. AllByRecursion (IsMet (λ w. k (z w))) es) (both f g)) (sym (take-next n asks a stands))
      (under-same cs (λ k. AllByRecursion (IsMet (λ w. k (z w))) (take n asks) × IsMet (λ w. k (z w)) a) (λ k. AllByRecursion (IsMet (λ w. k (z w))) (take n asks ++ a ∷ [])) (both f g) (λ k. all-joined (IsMet (λ w. k (z w))) (take n asks) a)
      (λ k. all-parted (IsMet (λ w. k (z w))) (take n asks) a)
      (both-under cs (λ k. AllByRecursion (IsMet (λ w. k (z w))) (take n asks)) (λ k. IsMet (λ w. k (z w)) a) f g (some z alike) (one z alike)))

  -- what can't be so of the first ones can't be of all
  pub fit-lacks : (n : ℕ) (f : Fit) → f ≡ Lacks → AreFit cs x arity (take n asks) f → AreFit cs x arity asks Lacks
  fit-lacks n f e g = let h = subst (AreFit cs x arity (take n asks)) e g in λ z alike k fits met. h z alike k fits (all-first (IsMet (λ w. k (z w))) n asks met)

-- the key of the first argument, by its place
pub has-key : (cs : List Raw) (x : ℕ → ℕ) (o : Option Hashed) (p : ℕ) → p ≡ x 1 → IfSome o (λ own. (k : ℕ → Tree) → Fits cs k → IsKeyOf own.key (k p)) → HasKey cs x o
has-key cs x None p e h = tt
has-key cs x (Some own) p e h = subst (λ p. (k : ℕ → Tree) → Fits cs k → IsKeyOf own.key (k p)) e h

-- a place at which a term of a known key is
pub bound-fit : (cs : List Raw) (p : ℕ) (own asked : Key) → ((k : ℕ → Tree) → Fits cs k → IsKeyOf own (k p)) → IsFit cs p asked (fit_known own asked)
bound-fit cs p own asked known = go (same_key own asked) refl
  where
    go : (b : Bool) → same_key own asked ≡ b → Under cs (λ k. IsKeyOf asked (k p)) (if b then Has else Lacks)
    go true q = λ k fits. subst (λ key. IsKeyOf key (k p)) (true-same own asked q) (known k fits)
    go false q = λ k fits met. clash own asked (k p) q (known k fits) met

-- an unbound variable takes a term of each key
pub takes-key : (cs : List Raw) (p x : ℕ) (asked : Key) → tree_at (trees cs) p ≡ var x → IsFit cs p asked Takes
takes-key cs p x (Atom a) e = takes-tree cs p x (atom a) e
takes-key cs p x (Integer z) e = takes-tree cs p x (int z) e
takes-key cs p x (Structure f n) e =
    let ts = spread (λ w. atom 0) 0 n in
    let h = takes-tree cs p x (node f ts) e in
    (h.0, h.1, (ts, count-spread (λ w. atom 0) 0 n, h.2))

-- ---- the clause

module _ (code : Compiled) (cs : List Raw) (x : ℕ → ℕ) (arity at : ℕ) (head : Head) (h : IsHeadOf code at head) where
  -- what can't be so shuts it
  pub shut-lacking : AreFit cs x arity head.asks.items Lacks → IsShut code cs x at
  shut-lacking f = λ y k bs asked. f x (λ w l. refl) k asked.0 (h.needed (λ w. k (x w)) (λ w. k (y w)) bs asked.1)

  takes : head.whole ≡ true → (z : ℕ → ℕ) (k : ℕ → Tree) → Fits cs k → AllByRecursion (IsMet (λ w. k (z w))) head.asks.items → CanTake code cs z at
  takes whole z k fits met = λ openly. let r = h.enough whole openly (λ w. k (z w)) (λ w. k 0) met in (λ w. 0, (k, r.0, (fits, r.1)))

  pub sure-having : head.whole ≡ true → AreFit cs x arity head.asks.items Has → (z : ℕ → ℕ) → Alike arity x z → CanTake code cs z at
  sure-having whole f = λ z alike. takes whole z (tree_at (trees cs)) (fits-own cs) (f z alike (tree_at (trees cs)) (fits-own cs))

  pub sure-taking : head.whole ≡ true → AreFit cs x arity head.asks.items Takes → (z : ℕ → ℕ) → Alike arity x z → CanTake code cs z at
  sure-taking whole f = λ z alike. let r = f z alike in takes whole z r.0 r.1 r.2

  -- by all that is asked
  pub chance-by : (f : Fit) → AreFit cs x arity head.asks.items f → IsChance code cs x arity at (chance_by f head.whole)
  chance-by f h = go f head.whole refl h
    where
      go : (f : Fit) (whole : Bool) → head.whole ≡ whole → AreFit cs x arity head.asks.items f → IsChance code cs x arity at (chance_by f whole)
      go Lacks whole e h = shut-lacking h
      go Open whole e h = tt
      go Has true e h = sure-having e h
      go Has false e h = tt
      go Takes true e h = sure-taking e h
      go Takes false e h = tt
