-- Links between numbers.
use Rattle.std.specs.Prelude.{◌≡◌, ℕ, ◌<◌, List, [], length, slice_index_or, Option}
use Rattle.ap_term.specs.Tree.{Tree}

pub record Links : Type 0 where
  pub froms : List ℕ
  pub tos : List ℕ

abbrev pub no_links : Links
no_links = record { froms = []; tos = [] }

-- linked numbers have the same value
abbrev pub Agrees : (ℕ → Option Tree) → Links → Type 0
Agrees f v = (k : ℕ) → k < length v.froms → f (slice_index_or v.froms k 0) ≡ f (slice_index_or v.tos k 0)
