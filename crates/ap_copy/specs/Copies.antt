-- Cells that stand for copies of trees.
use Rattle.std.specs.Prelude.{◌≡◌, ℕ, ◌+◌, ◌<◌, ◌≤◌, true, nat_eq, List, [], ◌∷◌, length, slice_index_or}
use Rattle.std.specs.List.{list_any, position_or_len}
use Rattle.ap_term.specs.Tree.{Tree, Trees, var, none, more}
use Rattle.ap_term.specs.Vars.{occurs, occurs_all}
use Rattle.ap_term.specs.Substitution.{instance}
use Rattle.ap_cells.specs.declared.cells.Raw.{Raw}
use Rattle.ap_cells.specs.declared.cells.Raw.TheVariants.{Free, Same, Int, Atom, Node}
use Rattle.ap_cells.specs.Trees.{tree_at, step, Within, Stand, trees}

-- the trees of some places
abbrev pub tuple_at : List Tree → List ℕ → Trees
tuple_at ts [] = none
tuple_at ts (r ∷ rs) = more (tree_at ts r) (tuple_at ts rs)

-- the variables are among those that have numbers
abbrev pub Known : List ℕ → Tree → Type 0
Known ks t = (x : ℕ) → occurs x t ≡ true → list_any (nat_eq x) ks ≡ true

abbrev pub KnownAll : List ℕ → Trees → Type 0
KnownAll ks ts = (x : ℕ) → occurs_all x ts ≡ true → list_any (nat_eq x) ks ≡ true

-- each variable by its number
abbrev pub numbered : List ℕ → ℕ → Tree
numbered ks x = var (position_or_len (nat_eq x) ks)

-- a cell that is no variable of its own, and leads to the first n places
abbrev pub IsBound : ℕ → Raw → Type 0
IsBound n Free = ⊥
IsBound n (Same j) = j < n
IsBound n (Int z) = Unit {0}
IsBound n (Atom a) = Unit {0}
IsBound n (Node a p k) = p + k ≤ n

-- a cell, for which a place behind the block is meant, stands for a copy of the tree, whose variables have numbers
abbrev pub IsCopy : List ℕ → List Raw → Raw → Tree → Type 0
IsCopy ks block c t = IsBound (length block) c × (step (trees block) 0 c ≡ instance (numbered ks) t) × Known ks t

abbrev pub AreCopies : List ℕ → List Raw → List Raw → List Tree → Type 0
AreCopies ks block [] [] = Unit {0}
AreCopies ks block [] (t ∷ ts) = ⊥
AreCopies ks block (c ∷ cs) [] = ⊥
AreCopies ks block (c ∷ cs) (t ∷ ts) = IsCopy ks block c t × AreCopies ks block cs ts

-- each cell leads to those before it
abbrev pub IsBelow : List Raw → Type 0
IsBelow cs = (i : ℕ) (d : Raw) → i < length cs → Within i i (slice_index_or cs i d)

-- a block that begins with the variables
pub record IsBlock (ks : List ℕ) (block : List Raw) : Type 0 where
  pub stand : Stand block (trees block)
  pub below : IsBelow block
  pub names : (i : ℕ) → i < length ks → tree_at (trees block) i ≡ var i
  pub room : length ks ≤ length block
  pub few : length block ≤ 4294967295

-- what was a copy still is one
abbrev pub Grown : List ℕ → List Raw → List Raw → Type 0
Grown ks old new = (c : Raw) (t : Tree) → IsCopy ks old c t → IsCopy ks new c t

-- a block of variables alone
pub record IsNames (block : List Raw) : Type 0 where
  pub stand : Stand block (trees block)
  pub below : IsBelow block
  pub names : (i : ℕ) → i < length block → tree_at (trees block) i ≡ var i
