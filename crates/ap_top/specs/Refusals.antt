-- The lines of refusals.
use Rattle.std.specs.Prelude.{ℕ, List, [], ◌∷◌, ◌++◌, codes, decimal}
use Rattle.ap_term.specs.Tree.{atom}
use Rattle.ap_writer.specs.Text.{term_text}
use Rattle.ap_clause.specs.declared.refusal.Refusal.{Refusal}
use Rattle.ap_clause.specs.declared.refusal.Refusal.TheVariants as refusal
use Rattle.ap_clause.specs.declared.refusal.What.{What}
use Rattle.ap_clause.specs.declared.refusal.What.TheVariants as what

abbrev pub what_text : What → List ℕ
what_text what.Variables = codes "variables"
what_text what.Arity = codes "arity"
what_text what.Goals = codes "goals"
what_text what.Group = codes "group"
what_text what.Clauses = codes "clauses"

-- a name is printed as an answer's atom is
abbrev pub reason : List (List ℕ) → Refusal → List ℕ
reason table (refusal.BadToken line) = codes "bad token"
reason table (refusal.NotAClause line) = codes "not a clause"
reason table (refusal.TooDeep line) = codes "too deep"
reason table (refusal.TooManyAtoms line) = codes "too many atoms"
reason table (refusal.Outside line name) = codes "outside " ++ term_text table (atom name)
reason table (refusal.TooLarge line large) = codes "too large " ++ what_text large
reason table refusal.NoMemory = []

abbrev pub line_of : Refusal → ℕ
line_of (refusal.BadToken line) = line
line_of (refusal.NotAClause line) = line
line_of (refusal.TooDeep line) = line
line_of (refusal.TooManyAtoms line) = line
line_of (refusal.Outside line name) = line
line_of (refusal.TooLarge line large) = line
line_of refusal.NoMemory = 0

-- the line of a refusal, with its line feed
abbrev pub refusal_line : List (List ℕ) → Refusal → List ℕ
refusal_line table r = codes "refused: line " ++ (decimal (line_of r) ++ (codes ": " ++ (reason table r ++ 10 ∷ [])))
