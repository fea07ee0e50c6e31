-- What is remembered of a copy.
use Rattle.std.specs.Prelude.{◌≡◌, ◌⊎◌, ℕ, List, [], ◌∷◌, ◌++◌}
use Rattle.ap_term.specs.Tree.{Tree, node}
use Rattle.ap_cells.specs.declared.cells.Raw.{Raw}
use Rattle.ap_cells.specs.declared.cells.Raw.TheVariants.{Node}
use Rattle.ap_cells.specs.Trees.{span}
use Rattle.ap_cells.specs.Walks.{Each}
use Rattle.ap_copy.specs.Copies.{IsCopy}
use Rattle.ap_copy.specs.declared.memory.Entry.{Entry}

-- the entry is put in, or left out
abbrev pub IsWith : Entry → List Entry → List Entry → Type 0
IsWith e old new = (new ≡ old) ⊎ (new ≡ old ++ e ∷ [])

-- the copies stand where the entry says
abbrev pub IsEntry : List Tree → List ℕ → List Raw → Entry → Type 0
IsEntry ts ks block e = IsCopy ks block (Node e.name e.first e.count) (node e.name (span ts e.from e.count))

abbrev pub Remembers : List Tree → List ℕ → List Raw → List Entry → Type 0
Remembers ts ks block es = Each (IsEntry ts ks block) es
