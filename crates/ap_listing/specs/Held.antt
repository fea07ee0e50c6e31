-- A line, and a switch, as the code holds them.
use Rattle.std.specs.Prelude.{ℕ, List, [], ◌∷◌, ◌++◌, Option, Some, None, if◌then◌else◌}
use Rattle.ap_listing.specs.Shown.{Operand, register, argument, constant, integer, functor, number, predicate, place, Shown}
use Rattle.ap_listing.specs.declared.line.Operand.{Operand as Held}
use Rattle.ap_listing.specs.declared.line.Operand.TheVariants.{Register, Argument, Constant, Integer, Functor, Number, Predicate, Place}
use Rattle.ap_listing.specs.declared.line.Line.{Line}
use Rattle.ap_listing.specs.declared.switch.Switch.{Switch}
use Rattle.ap_listing.specs.declared.switch.Entry.{Entry}
use Rattle.ap_listing.specs.declared.text.Origin.{Origin}
use Rattle.ap_listing.specs.Switch.{Table, is_constant, is_functor}
use Rattle.ap_listing.specs.Lines.{entry_text}

abbrev pub operand_of : Held → Operand
operand_of (Register v) = register v
operand_of (Argument a) = argument a
operand_of (Constant c) = constant c
operand_of (Integer i) = integer i
operand_of (Functor f n) = functor f n
operand_of (Number n) = number n
operand_of (Predicate p) = predicate p
operand_of (Place l) = place l

abbrev pub operands_of : Option Held → List Operand
operands_of None = []
operands_of (Some o) = operand_of o ∷ []

abbrev pub shown_of : Line → Shown
shown_of line = record { word = line.word.now; operands = operands_of line.first ++ (operands_of line.second ++ operands_of line.third) }

abbrev pub table_in : Switch → Table
table_in s = record { constants = s.has_constants; functors = s.has_structures; entries = s.entries.items; others = s.others; instructions = s.instructions.items }

abbrev pub table_if : Option Switch → Option Table
table_if None = None
table_if (Some s) = Some (table_in s)

-- the entries of constants and integers, and of structures that are no list's cells, as they are gone over
abbrev pub constants_text : List (List ℕ) → Origin → List Entry → List ℕ
constants_text names o [] = []
constants_text names o (e ∷ es) = (if is_constant e.key then entry_text names o e else []) ++ constants_text names o es

abbrev pub functors_text : List (List ℕ) → Origin → List Entry → List ℕ
functors_text names o [] = []
functors_text names o (e ∷ es) = (if is_functor names e.key then entry_text names o e else []) ++ functors_text names o es
