-- What a built-in goal on two places makes of cells.
use Rattle.std.specs.Prelude.{◌≡◌, ℕ, ℤ, Bool, false, List, Option, Some, None}
use Rattle.ap_term.specs.declared.builtins.Relation.{Relation}
use Rattle.ap_term.specs.declared.builtins.Relation.TheVariants.{Unify, NotUnify, Same, NotSame, Is, Compare}
use Rattle.ap_term.specs.Tree.{int}
use Rattle.ap_term.specs.Arithmetic.{eval}
use Rattle.ap_term.specs.Builtins.{relation_answer, succeeds_if}
use Rattle.ap_cells.specs.declared.cells.Raw.{Raw}
use Rattle.ap_cells.specs.Trees.{tree_at, trees}
use Rattle.ap_match.specs.Fits.{Answered}

-- the place's term is made the value, where there is one
abbrev pub GivenValue : Option ℤ → List Raw → List Raw → ℕ → Bool → Type 0
GivenValue None old new a r = r ≡ false
GivenValue (Some z) old new a r = Answered old new (λ k. k a ≡ int z) r

-- a test of the terms of two places, which leaves the cells
abbrev pub Tested : Relation → List Raw → List Raw → ℕ → ℕ → Bool → Type 0
Tested relation old new a b r = (new ≡ old) × (relation_answer relation (tree_at (trees old) a) (tree_at (trees old) b) ≡ succeeds_if r)

abbrev pub Solved : Relation → List Raw → List Raw → ℕ → ℕ → Bool → Type 0
Solved Unify old new a b r = Answered old new (λ k. k a ≡ k b) r
Solved NotUnify old new a b r = Tested NotUnify old new a b r
Solved Same old new a b r = Tested Same old new a b r
Solved NotSame old new a b r = Tested NotSame old new a b r
Solved Is old new a b r = GivenValue (eval (tree_at (trees old) b)) old new a r
Solved (Compare op) old new a b r = Tested (Compare op) old new a b r
