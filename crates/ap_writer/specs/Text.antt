-- The text of a term: functional notation and lists, no operators.
use Rattle.std.specs.Prelude.{ℕ, List, [], ◌∷◌, ◌++◌, codes, slice_get, Option, Some, None, if◌then◌else◌}
use Rattle.std.specs.Fmt.{decimal, signed_decimal}
use Rattle.std.specs.Str.{bytes_eq}
use Rattle.ap_term.specs.Tree.{Tree, Trees, var, int, atom, node, none, more}
use Rattle.ap_term.specs.Vars.{vars}
use Rattle.ap_term.specs.Substitution.{instance}
use Rattle.ap_term.specs.UpToNames.{place}
use Rattle.ap_writer.specs.Quoted.{name_text}

abbrev pub or_empty : Option (List ℕ) → List ℕ
or_empty None = []
or_empty (Some name) = name

-- an atom's name; the empty one where the table doesn't hold the atom
abbrev pub name_at : List (List ℕ) → ℕ → List ℕ
name_at names a = or_empty (slice_get names a)

-- a term's text where it stands by itself, and where it is what follows the elements of a list
pub record Shown : Type 0 where
  pub own : List ℕ
  pub tail : List ℕ

abbrev pub by_itself : List ℕ → Shown
by_itself own = record { own = own; tail = codes "|" ++ (own ++ codes "]") }

-- the arguments behind the first, and the closing parenthesis
abbrev pub behind_commas : List Shown → List ℕ
behind_commas [] = codes ")"
behind_commas (x ∷ xs) = codes "," ++ (x.own ++ behind_commas xs)

abbrev pub arguments : List Shown → List ℕ
arguments [] = codes ")"
arguments (x ∷ xs) = x.own ++ behind_commas xs

abbrev pub compound : List ℕ → List Shown → Shown
compound name xs = by_itself (name_text name ++ (codes "(" ++ arguments xs))

-- an element, and what follows it
abbrev pub cell : Shown → Shown → Shown
cell x y = record { own = codes "[" ++ (x.own ++ y.tail); tail = codes "," ++ (x.own ++ y.tail) }

-- a compound; with the name `.` and two arguments it is a list
abbrev pub shown_node : List ℕ → List Shown → Shown
shown_node name (x ∷ y ∷ []) = if bytes_eq name (codes ".") then cell x y else compound name (x ∷ y ∷ [])
shown_node name xs = compound name xs

-- an atom; `[]` ends a list
abbrev pub shown_atom : List ℕ → Shown
shown_atom name = if bytes_eq name (codes "[]") then record { own = codes "[]"; tail = codes "]" } else by_itself (name_text name)

abbrev mutual
  pub shown : List (List ℕ) → Tree → Shown
  shown names (var x) = by_itself (codes "_" ++ decimal x)
  shown names (int z) = by_itself (signed_decimal z)
  shown names (atom a) = shown_atom (name_at names a)
  shown names (node a ts) = shown_node (name_at names a) (all_shown names ts)

  pub all_shown : List (List ℕ) → Trees → List Shown
  all_shown names none = []
  all_shown names (more t ts) = shown names t ∷ all_shown names ts

-- a term as it stands, variable x as `_x`
abbrev pub text : List (List ℕ) → Tree → List ℕ
text names t = (shown names t).own

-- each variable as its place among those found
abbrev pub numbered_by : List ℕ → ℕ → Tree
numbered_by found x = var (place found x)

-- a term with its variables as `_1`, `_2`, .. by first occurrence
abbrev pub term_text : List (List ℕ) → Tree → List ℕ
term_text names t = text names (instance (numbered_by (vars t)) t)
