-- The tokens that a printed term is read as.
use Rattle.std.specs.Prelude.{ℕ, Bool, true, List, [], ◌∷◌, ◌++◌, codes, bytes_eq, if◌then◌else◌}
use Rattle.ap_lexer.specs.declared.kind.TokenKind.TheVariants as token
use Rattle.ap_lexer.specs.Law.{Spelled}
use Rattle.ap_term.specs.Tree.{Tree, Trees, var, int, atom, node, none, more}
use Rattle.ap_writer.specs.Text.{name_at}
use Rattle.ap_cge.specs.Again.{one_token, name_tokens, integer_tokens, variable_tokens}

-- a term's tokens where it stands by itself, and where it is what follows the elements of a list; each is told whether
-- the token behind it touches
pub record Told : Type 0 where
  pub own : Bool → List Spelled
  pub tail : Bool → List Spelled

abbrev pub told_alone : (Bool → List Spelled) → Told
told_alone own = record { own = own; tail = λ touches. one_token token.Bar (codes "|") true ++ (own true ++ one_token token.CloseList (codes "]") touches) }

abbrev pub told_later : List Told → Bool → List Spelled
told_later [] touches = one_token token.Close (codes ")") touches
told_later (x ∷ xs) touches = one_token token.Comma (codes ",") true ++ (x.own true ++ told_later xs touches)

abbrev pub told_arguments : List Told → Bool → List Spelled
told_arguments [] touches = one_token token.Close (codes ")") touches
told_arguments (x ∷ xs) touches = x.own true ++ told_later xs touches

abbrev pub told_compound : List ℕ → List Told → Told
told_compound name xs = told_alone (λ touches. name_tokens name true ++ (one_token token.Open (codes "(") true ++ told_arguments xs touches))

abbrev pub told_cell : Told → Told → Told
told_cell x y = record {
  own = λ touches. one_token token.OpenList (codes "[") true ++ (x.own true ++ y.tail touches);
  tail = λ touches. one_token token.Comma (codes ",") true ++ (x.own true ++ y.tail touches);
}

abbrev pub told_node : List ℕ → List Told → Told
told_node name (x ∷ y ∷ []) = if bytes_eq name (codes ".") then told_cell x y else told_compound name (x ∷ y ∷ [])
told_node name xs = told_compound name xs

abbrev pub told_atom : List ℕ → Told
told_atom name = if bytes_eq name (codes "[]") then record { own = name_tokens (codes "[]"); tail = λ touches. one_token token.CloseList (codes "]") touches } else told_alone (name_tokens name)

abbrev mutual
  pub told : List (List ℕ) → Tree → Told
  told names (var x) = told_alone (variable_tokens x)
  told names (int z) = told_alone (integer_tokens z)
  told names (atom a) = told_atom (name_at names a)
  told names (node a ts) = told_node (name_at names a) (all_told names ts)

  pub all_told : List (List ℕ) → Trees → List Told
  all_told names none = []
  all_told names (more t ts) = told names t ∷ all_told names ts

abbrev pub term_tokens : List (List ℕ) → Tree → Bool → List Spelled
term_tokens names t = (told names t).own
