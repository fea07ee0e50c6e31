-- What the table of operators says of a name and of a priority.
use Rattle.std.specs.Prelude.{ℕ, ◌-◌, Bool, true, false, ◌&&◌, ◌==◌, if◌then◌else◌, List, [], ◌∷◌, map, bytes_eq, not}
use Rattle.ap_lexer.specs.Lexeme.{Text}
use Rattle.ap_reader.specs.declared.operators.Fixity.{Fixity}
use Rattle.ap_reader.specs.declared.operators.Fixity.TheVariants.{Xfy, Yfx, Fx, Fy}
use Rattle.ap_reader.specs.declared.operators.TheConstants.{OPERATORS}

-- priority, fixity and name
abbrev pub Row : Type 0
Row = ℕ × Fixity × Text

abbrev pub table : List Row
table = map (λ row. (row.0, row.1, row.2.now)) OPERATORS

abbrev pub is_prefix : Fixity → Bool
is_prefix Fx = true
is_prefix Fy = true
is_prefix _ = false

-- whether an operand on the left, or on the right, may have the operator's own priority
abbrev pub keeps_left : Fixity → Bool
keeps_left Yfx = true
keeps_left _ = false

abbrev pub keeps_right : Fixity → Bool
keeps_right Xfy = true
keeps_right Fy = true
keeps_right _ = false

abbrev pub same : Bool → Bool → Bool
same true b = b
same false b = not b

-- the priority of a name among operators, those that are prefix or the others; 0 where it is none of them
abbrev pub priority_in : Bool → List Row → Text → ℕ
priority_in prefix [] name = 0
priority_in prefix (row ∷ rows) name = if same (is_prefix row.1) prefix && bytes_eq row.2 name then row.0 else priority_in prefix rows name

abbrev pub is_left : ℕ → List Row → Bool
is_left p [] = false
is_left p (row ∷ rows) = if keeps_left row.1 && row.0 == p then true else is_left p rows

abbrev pub is_right : ℕ → List Row → Bool
is_right p [] = false
is_right p (row ∷ rows) = if keeps_right row.1 && row.0 == p then true else is_right p rows

unfoldable pub priority_of : Bool → Text → ℕ
priority_of prefix = priority_in prefix table

-- the greatest priority of an operand on the left, and on the right, of an operator of priority p
unfoldable pub left_max : ℕ → ℕ
left_max p = if is_left p table then p else p - 1

unfoldable pub right_max : ℕ → ℕ
right_max p = if is_right p table then p else p - 1
