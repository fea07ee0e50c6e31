-- A block that is pushed behind other cells.
use Rattle.std.proofs.Common.{◌≡◌, ℕ, zero, suc, ◌+◌, ◌<◌, ◌≤◌, List, [], ◌∷◌, ◌++◌, length, map, take, drop, get_or, refl, sym, ap, ◌∙◌, subst, arith, append_assoc, length-append}
use Rattle.std.proofs.lemmas.List.{get_or-append-add, get_or-map, get_or-take, take_more, map-append, length-take-le, length-map}
use Rattle.ap_term.specs.Tree.{Tree, Trees, var, node, more}
use Rattle.ap_term.specs.Substitution.{instance, instance_all, shift}
use Rattle.ap_cells.specs.declared.cells.Raw.{Raw}
use Rattle.ap_cells.specs.declared.cells.Raw.TheVariants.{Free, Same, Int, Atom, Node}
use Rattle.ap_cells.specs.Trees.{tree_at, span, step, Within, Stand}
use Rattle.ap_term.specs.UpToNames.{SameUpToNames}
use Rattle.ap_term.proofs.Renamings.{renumbered-renamed}
use Rattle.ap_cells.specs.Store.{Store, Keeps, freed}
use Rattle.ap_copy.specs.Copies.{IsBelow}
use Rattle.ap_copy.specs.Parcels.{raw_moved}

pub Within-moved : (n i : ℕ) (c : Raw) → Within i i c → Within (n + i) (n + i) (raw_moved n c)
Within-moved n i Free w = tt
Within-moved n i (Same j) w = omega arith
Within-moved n i (Int z) w = tt
Within-moved n i (Atom a) w = tt
Within-moved n i (Node a p k) w = omega arith

-- what a moved cell stands for, where those before it have been moved
module _ (ts us : List Tree) (i : ℕ) (i_le : i ≤ length us) where
  abbrev f : ℕ → Tree
  f = shift (length ts)

  abbrev ws : List Tree
  ws = ts ++ map (instance f) (take i us)

  at_moved : (j : ℕ) → j < i → tree_at ws (length ts + j) ≡ instance f (tree_at us j)
  at_moved j h =
      get_or-append-add ts (map (instance f) (take i us)) j (var (length ts + j))
      ∙ get_or-map (instance f) (take i us) j (var j) (var (length ts + j)) (omega (arith, length-take-le i us i_le))
      ∙ ap (instance f) (get_or-take i us j (var j) h)

  span-moved : (p k : ℕ) → p + k ≤ i → span ws (length ts + p) k ≡ instance_all f (span us p k)
  span-moved p zero h = refl
  span-moved p (suc k) h =
      let e : (length ts + p) + 1 ≡ length ts + (p + 1) = omega arith in
      ap (λ t. more t (span ws ((length ts + p) + 1) k)) (at_moved p (omega arith))
      ∙ ap (λ q. more (instance f (tree_at us p)) (span ws q k)) e ∙ ap (more (instance f (tree_at us p))) (span-moved (p + 1) k (omega arith))

  pub step-moved : (c : Raw) → Within i i c → step ws (length ts + i) (raw_moved (length ts) c) ≡ instance f (step us i c)
  step-moved Free w = let e : length ts + i ≡ i + length ts = omega arith in ap var e
  step-moved (Same j) w = at_moved j w
  step-moved (Int z) w = refl
  step-moved (Atom a) w = refl
  step-moved (Node a p k) w = ap (node a) (span-moved p k w)

-- one more cell of the block
pub moved-more : (ts us : List Tree) (block : List Raw) (i : ℕ) (c : Raw) → Stand block us → IsBelow block → i < length block → c ≡ get_or block i c
    → (ts ++ map (instance (shift (length ts))) (take i us)) ++ step (ts ++ map (instance (shift (length ts))) (take i us)) (length ts + i) (raw_moved (length ts) c) ∷ [] ≡ ts ++ map (instance (shift (length ts))) (take (i + 1) us)
moved-more ts us block i c s b h e =
    append_assoc ts (map f (take i us)) (step (ts ++ map f (take i us)) (length ts + i) (raw_moved (length ts) c) ∷ [])
    ∙ ap (λ t. ts ++ (map f (take i us) ++ t ∷ [])) (step-moved ts us i (omega (arith, s.len)) c within ∙ ap (instance (shift (length ts))) same)
    ∙ ap (λ xs. ts ++ xs) (sym (map-append f (take i us) (tree_at us i ∷ [])) ∙ ap (map f) (sym (take_more us i (var i) (omega (arith, s.len)))))
  where
    f : Tree → Tree
    f = instance (shift (length ts))

    within : Within i i c
    within = subst (Within i i) (sym e) (b i c h)

    same : step us i c ≡ tree_at us i
    same = ap (step us i) e ∙ sym (s.each i c h)

-- the last places of the moved block
pub span-last : (ts us : List Tree) (p k : ℕ) → p + k ≤ length us → span (ts ++ map (instance (shift (length ts))) us) (length ts + p) k ≡ instance_all (shift (length ts)) (span us p k)
span-last ts us p k h =
    ap (λ xs. span (ts ++ map (instance (shift (length ts))) xs) (length ts + p) k) (sym (take-all us)) ∙ span-moved ts us (length us) (omega arith) p k h
  where
    take-all : (xs : List Tree) → take (length xs) xs ≡ xs
    take-all [] = refl
    take-all (x ∷ xs) = ap (λ ys. x ∷ ys) (take-all xs)

-- a store with the same cells and the same trail
pub Keeps-same : (v w : Store) → w.cells ≡ v.cells → w.trail ≡ v.trail → Keeps v w
Keeps-same v w e h = record {
  stays = λ n t m. rw (e, h) m;
  leads = λ n t m. ap (λ xs. take n (freed (drop t xs) w.cells)) h ∙ ap (λ cs. take n (freed (drop t v.trail) cs)) e;
}

-- variables that are moved up keep apart
pub shift-same : (n : ℕ) (ts : Trees) → SameUpToNames (instance_all (shift n) ts) ts
shift-same n ts = renumbered-renamed (λ x. x + n) ts (λ x y h k e. omega arith)

pub length-pushed : (ts us vs : List Tree) → vs ≡ ts ++ map (instance (shift (length ts))) us → length vs ≡ length ts + length us
length-pushed ts us vs e = ap length e ∙ length-append ts (map (instance (shift (length ts))) us) ∙ ap (λ n. length ts + n) (length-map us (instance (shift (length ts))))
