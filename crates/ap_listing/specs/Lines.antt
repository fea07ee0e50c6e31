-- The lines of a listing: for each predicate that is listed its name and arity, its switch, and its instructions, one a line.
use Rattle.std.specs.Prelude.{ℕ, ◌+◌, ◌-◌, List, [], ◌∷◌, ◌++◌, codes, Option, Some, None, if◌then◌else◌, flat_map}
use Rattle.std.specs.Fmt.{decimal, signed_decimal}
use Rattle.ap_writer.specs.Quoted.{name_text}
use Rattle.ap_writer.specs.Text.{name_at}
use Rattle.ap_instr.specs.declared.instruction.Instr.{Instr}
use Rattle.ap_instr.specs.declared.compiled.Predicate.{Predicate}
use Rattle.ap_instr.specs.Code.{Compiled, instructions_of}
use Rattle.ap_listing.specs.Shown.{Operand, register, argument, constant, integer, functor, number, predicate, place, Shown, shown_instruction, functor_text, operand_text as plain_text}
use Rattle.ap_index.specs.declared.key.Key.{Key}
use Rattle.ap_index.specs.declared.key.Key.TheVariants.{Atom, Integer, Structure}
use Rattle.ap_listing.specs.declared.text.Origin.{Origin}
use Rattle.ap_listing.specs.declared.switch.Place.{Place}
use Rattle.ap_listing.specs.declared.switch.Place.TheVariants.{Nowhere, Clause, Line}
use Rattle.ap_listing.specs.declared.switch.Entry.{Entry}
use Rattle.ap_listing.specs.Switch.{Table, table, lines_of, Switch, on_term, on_constant, on_structure, switches}

-- the line of the instruction at a place, counted from a predicate's first one
abbrev pub line_number : Origin → ℕ → ℕ
line_number o l = o.line + (l - o.place)

abbrev pub operand_text : List (List ℕ) → Compiled → Origin → Operand → List ℕ
operand_text names code o (register v) = plain_text names code o.place (register v)
operand_text names code o (argument a) = plain_text names code o.place (argument a)
operand_text names code o (constant c) = plain_text names code o.place (constant c)
operand_text names code o (integer i) = plain_text names code o.place (integer i)
operand_text names code o (functor f n) = plain_text names code o.place (functor f n)
operand_text names code o (number n) = plain_text names code o.place (number n)
operand_text names code o (predicate p) = plain_text names code o.place (predicate p)
operand_text names code o (place l) = codes "@" ++ decimal (line_number o l)

-- operands, a blank before each
abbrev pub operands_text : List (List ℕ) → Compiled → Origin → List Operand → List ℕ
operands_text names code o [] = []
operands_text names code o (x ∷ xs) = codes " " ++ (operand_text names code o x ++ operands_text names code o xs)

-- two blanks, the word, the operands and a line feed
abbrev pub shown_line : List (List ℕ) → Compiled → Origin → Shown → List ℕ
shown_line names code o s = codes "  " ++ (s.word ++ (operands_text names code o s.operands ++ codes "\n"))

abbrev pub lines : List (List ℕ) → Compiled → Origin → List Instr → List ℕ
lines names code o [] = []
lines names code o (i ∷ is) = shown_line names code o (shown_instruction names i) ++ lines names code o is

-- ---- switches

-- a place, a blank before it
abbrev pub place_text : Origin → Place → List ℕ
place_text o Nowhere = codes " fail"
place_text o (Clause l) = codes " @" ++ decimal (line_number o l)
place_text o (Line n) = codes " @" ++ decimal n

abbrev pub key_text : List (List ℕ) → Key → List ℕ
key_text names (Atom a) = codes " " ++ name_text (name_at names a)
key_text names (Integer z) = codes " " ++ signed_decimal z
key_text names (Structure f n) = codes " " ++ functor_text names f n

abbrev pub entry_text : List (List ℕ) → Origin → Entry → List ℕ
entry_text names o e = key_text names e.key ++ place_text o e.place

abbrev pub entries_text : List (List ℕ) → Origin → List Entry → List ℕ
entries_text names o [] = []
entries_text names o (e ∷ es) = entry_text names o e ++ entries_text names o es

abbrev pub switch_text : List (List ℕ) → Origin → Switch → List ℕ
switch_text names o (on_term unbound atomic list compound) =
    codes "  switch_on_term" ++ (place_text o unbound ++ (place_text o atomic ++ (place_text o list ++ (place_text o compound ++ codes "\n"))))
switch_text names o (on_constant es others) = codes "  switch_on_constant" ++ (entries_text names o es ++ (place_text o others ++ codes "\n"))
switch_text names o (on_structure es others) = codes "  switch_on_structure" ++ (entries_text names o es ++ (place_text o others ++ codes "\n"))

-- ---- predicates

-- a place of the code is listed so many lines behind the switch as it stands behind the predicate's start
abbrev pub origin_of : Predicate → ℕ → Origin
origin_of p line = record { place = p.start; line = line }

abbrev pub switches_text : List (List ℕ) → Origin → List Switch → List ℕ
switches_text names o [] = []
switches_text names o (s ∷ ss) = switch_text names o s ++ switches_text names o ss

abbrev pub switched_lines : List (List ℕ) → Compiled → Origin → Table → List ℕ
switched_lines names code o t = switches_text names o (switches names t) ++ lines names code o t.instructions

abbrev pub instruction_lines : List (List ℕ) → Compiled → Predicate → Option Table → List ℕ
instruction_lines names code p None = lines names code (origin_of p 0) (instructions_of code p)
instruction_lines names code p (Some t) = switched_lines names code (origin_of p (lines_of t.constants t.functors)) t

abbrev pub predicate_lines : List (List ℕ) → Compiled → Predicate → List ℕ
predicate_lines names code p =
    if p.is_listed then functor_text names p.name p.arity ++ (codes ":\n" ++ instruction_lines names code p (table names code p)) else []

abbrev pub listing : List (List ℕ) → Compiled → List ℕ
listing names code = flat_map (predicate_lines names code) code.predicates
