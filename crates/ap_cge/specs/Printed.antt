-- An annotated program as text: a line for each clause.
use Rattle.std.specs.Prelude.{ℕ, Bool, false, ◌||◌, if◌then◌else◌, List, [], ◌∷◌, ◌++◌, codes, map, bytes_eq}
use Rattle.std.specs.List.{flat_map, list_any}
use Rattle.ap_term.specs.declared.clauses.Check.{Check}
use Rattle.ap_term.specs.declared.clauses.Check.TheVariants.{Ground, Indep}
use Rattle.ap_term.specs.Tree.{Tree, Trees, var, int, atom, node, none, more}
use Rattle.ap_term.specs.Vars.{add_vars}
use Rattle.ap_term.specs.Substitution.{instance}
use Rattle.ap_term.specs.Goals.{Part, call, group, Clause, Program}
use Rattle.ap_writer.specs.Quoted.{is_symbols}
use Rattle.ap_writer.specs.Text.{name_at, text, numbered_by}
use Rattle.ap_reader.specs.declared.operators.TheConstants.{OPERATORS}

-- what a line is made of: words, and terms without operators
pub data Piece : Type 0 where
  word : List ℕ → Piece
  term : Tree → Piece

unfoldable pub is_operator : List ℕ → Bool
is_operator name = list_any (λ row. bytes_eq row.2.now name) OPERATORS

-- an atom that is an operator, or a run of symbol characters, is no goal without parentheses
abbrev pub is_enclosed : List (List ℕ) → Tree → Bool
is_enclosed names (var x) = false
is_enclosed names (int z) = false
is_enclosed names (atom a) = is_operator (name_at names a) || is_symbols (name_at names a)
is_enclosed names (node a ts) = false

abbrev pub goal_pieces : List (List ℕ) → Tree → List Piece
goal_pieces names t = if is_enclosed names t then word (codes "(") ∷ term t ∷ word (codes ")") ∷ [] else term t ∷ []

abbrev pub check_pieces : Check → List Piece
check_pieces (Ground x) = word (codes "ground(") ∷ term (var x) ∷ word (codes ")") ∷ []
check_pieces (Indep x y) = word (codes "indep(") ∷ term (var x) ∷ word (codes ",") ∷ term (var y) ∷ word (codes ")") ∷ []

-- what each is printed as, behind a sign
abbrev pub behind : {A : Type 0} → List ℕ → (A → List Piece) → List A → List Piece
behind sign f xs = flat_map (λ x. word sign ∷ f x) xs

-- the same, parted by the sign
abbrev pub parted : {A : Type 0} → List ℕ → (A → List Piece) → List A → List Piece
parted sign f [] = []
parted sign f (x ∷ xs) = f x ++ behind sign f xs

-- one check, or several in parentheses
abbrev pub condition_pieces : List Check → List Piece
condition_pieces [] = []
condition_pieces (c ∷ []) = check_pieces c ++ word (codes " => ") ∷ []
condition_pieces (c ∷ d ∷ cs) = word (codes "(") ∷ (parted (codes ", ") check_pieces (c ∷ d ∷ cs) ++ word (codes ") => ") ∷ [])

abbrev pub list_of : Trees → List Tree
list_of none = []
list_of (more t ts) = t ∷ list_of ts

abbrev pub part_pieces : List (List ℕ) → Part → List Piece
part_pieces names (call t) = goal_pieces names t
part_pieces names (group cs ts) = condition_pieces cs ++ parted (codes " & ") (goal_pieces names) (list_of ts)

abbrev pub body_pieces : List (List ℕ) → List Part → List Piece
body_pieces names [] = []
body_pieces names (p ∷ ps) = word (codes " :- ") ∷ parted (codes ", ") (part_pieces names) (p ∷ ps)

-- the head, the body, a full stop and a line feed
abbrev pub clause_pieces : List (List ℕ) → Clause → List Piece
clause_pieces names c = goal_pieces names c.head ++ (body_pieces names c.body ++ word (codes ".\n") ∷ [])

-- the variables in the order of their first occurrence
abbrev pub add_piece_vars : Piece → List ℕ → List ℕ
add_piece_vars (word bytes) found = found
add_piece_vars (term t) found = add_vars t found

abbrev pub add_pieces_vars : List Piece → List ℕ → List ℕ
add_pieces_vars [] found = found
add_pieces_vars (p ∷ ps) found = add_pieces_vars ps (add_piece_vars p found)

-- the text of a piece, its variables numbered by their places among those of the line
abbrev pub piece_text : List (List ℕ) → List ℕ → Piece → List ℕ
piece_text names found (word bytes) = bytes
piece_text names found (term t) = text names (instance (numbered_by found) t)

abbrev pub pieces_text : List (List ℕ) → List ℕ → List Piece → List ℕ
pieces_text names found ps = flat_map (piece_text names found) ps

-- a clause's line, its variables `_1`, `_2`, .. by first occurrence
abbrev pub line_of : List (List ℕ) → Clause → List ℕ
line_of names c = let ps = clause_pieces names c in pieces_text names (add_pieces_vars ps []) ps

abbrev pub lines_of : List (List ℕ) → Program → List (List ℕ)
lines_of names = map (line_of names)
