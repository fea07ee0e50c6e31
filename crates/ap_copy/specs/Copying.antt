-- A copy on its way.
use Rattle.std.specs.Prelude.{◌≡◌, ℕ, zero, suc, ◌+◌, ◌-◌, ◌*◌, ◌<◌, ◌≤◌, List, [], ◌∷◌, ◌++◌, length}
use Rattle.ap_term.specs.Tree.{Tree, node}
use Rattle.ap_cells.specs.declared.cells.Raw.{Raw}
use Rattle.ap_cells.specs.Trees.{tree_at, span}
use Rattle.ap_cells.specs.Walks.{weight_all}
use Rattle.ap_copy.specs.Copies.{Known, IsCopy, AreCopies, IsBlock, Grown}
use Rattle.ap_copy.specs.declared.copying.Frame.{Frame}
use Rattle.ap_copy.specs.declared.copying.Begun.{Begun}
use Rattle.ap_copy.specs.declared.copying.Begun.TheVariants.{Copied, Term, Unknown}

-- the trees of n places from p on
abbrev pub items : List Tree → ℕ → ℕ → List Tree
items ts p zero = []
items ts p (suc n) = tree_at ts p ∷ items ts (p + 1) n

-- the arguments that are copied already, those of the last frame last
abbrev pub copied : List Tree → List Frame → List Tree
copied ts [] = []
copied ts (f ∷ fs) = items ts f.first f.copied ++ copied ts fs

-- within the tree t, each frame is of the next argument of the one before it, and u is the next argument of the last
abbrev pub Waits : List Tree → List Frame → Tree → Tree → Type 0
Waits ts [] t u = t ≡ u
Waits ts (f ∷ fs) t u =
    (node f.name (span ts f.first f.count) ≡ t) × (f.copied < f.count) × (f.first + f.count ≤ length ts) × Waits ts fs (tree_at ts (f.first + f.copied)) u

-- the frame is of the tree, and none of its arguments is copied
abbrev pub IsFirst : List Tree → Tree → Frame → Type 0
IsFirst ts t f = (t ≡ node f.name (span ts f.first f.count)) × (f.first + f.count ≤ length ts) × (f.copied ≡ 0)

-- what the beginning of a copy of the tree came to: where a variable has no number, not all have
abbrev pub IsBegun : List Tree → List ℕ → List Raw → Tree → Begun → Type 0
IsBegun ts ks block t (Copied c) = IsCopy ks block c t
IsBegun ts ks block t (Term f) = IsFirst ts t f
IsBegun ts ks block t Unknown = Known ks t → ⊥

-- the loose cells behind `before` are the copied arguments, those of the newest frame last, and the block has grown from `old`
pub record Going (ts : List Tree) (ks : List ℕ) (root : Tree) (old before : List Raw) (frames : List Frame) (frame : Frame) (loose block : List Raw) : Type 0 where
  pub waits : Waits ts frames root (node frame.name (span ts frame.first frame.count))
  pub inside : frame.first + frame.count ≤ length ts
  pub part : frame.copied ≤ frame.count
  pub mine : List Raw
  pub split : loose ≡ before ++ mine
  pub copies : AreCopies ks block mine (copied ts frames ++ items ts frame.first frame.copied)
  pub grown : Grown ks old block
  pub is_block : IsBlock ks block

-- one more loose cell, a copy of the tree
pub record IsCopied (ks : List ℕ) (old new before after : List Raw) (t : Tree) : Type 0 where
  pub cell : Raw
  pub split : after ≡ before ++ cell ∷ []
  pub copy : IsCopy ks new cell t
  pub grown : Grown ks old new

-- turns left
abbrev pub weight_frame : List Tree → Frame → ℕ
weight_frame ts f = 2 * weight_all (span ts (f.first + f.copied) (f.count - f.copied)) + 1

abbrev pub weight_frames : List Tree → List Frame → ℕ
weight_frames ts [] = 0
weight_frames ts (f ∷ fs) = 2 * weight_all (span ts (f.first + (f.copied + 1)) (f.count - (f.copied + 1))) + 1 + weight_frames ts fs
