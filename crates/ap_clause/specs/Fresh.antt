-- The names of lifted predicates.
use Rattle.std.specs.Prelude.{◌≡◌, ℕ, ◌+◌, ◌≤◌, ◌<◌, true, false, List, [], ◌∷◌, ◌++◌, map, length, codes, slice_index}
use Rattle.std.specs.Fmt.{decimal}
use Rattle.ap_lexer.specs.Lexeme.{Text}
use Rattle.ap_term.specs.AtomTable.{is_held}

abbrev pub lift_name : ℕ → Text
lift_name k = codes "lift_" ++ decimal k

-- the least number from a place on whose name the table doesn't hold
pub record IsNext (table : List Text) (from k : ℕ) : Type 0 where
  pub from_there : from ≤ k
  pub new : is_held table (lift_name k) ≡ false
  pub least : (i : ℕ) → from ≤ i → i < k → is_held table (lift_name i) ≡ true

-- the numbers of the lifted predicates, one after another, each of whose names goes behind the others
abbrev pub AreNext : List Text → ℕ → List ℕ → Type 0
AreNext table from [] = Unit {0}
AreNext table from (k ∷ ks) = IsNext table from k × AreNext (table ++ lift_name k ∷ []) (k + 1) ks

-- a table with the names of the lifted predicates
abbrev pub with_lifted : List Text → List ℕ → List Text
with_lifted table ks = table ++ map lift_name ks

-- the atoms from a place on, as many as there are numbers
abbrev pub atoms_from : ℕ → List ℕ → List ℕ
atoms_from at [] = []
atoms_from at (k ∷ ks) = at ∷ atoms_from (at + 1) ks

-- the atom of the n-th lifted predicate, from 0
abbrev pub names_by : List Text → List ℕ → ℕ → ℕ
names_by table ks n = slice_index (atoms_from (length table) ks) n
