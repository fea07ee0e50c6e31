-- Laws of a listed switch: the clauses to which it leads a call.
use Rattle.std.specs.Prelude.{◌≡◌, ℕ, ◌-◌, if◌then◌else◌, List, [], ◌∷◌, drop, slice_get, Option, Some, None}
use Rattle.ap_term.specs.AtomTable.{IsAtomTable}
use Rattle.ap_instr.specs.declared.instruction.Instr.{Instr}
use Rattle.ap_instr.specs.declared.compiled.Predicate.{Predicate}
use Rattle.ap_instr.specs.Code.{Compiled, instructions_of}
use Rattle.ap_instr.specs.StandsFor.{clause_places}
use Rattle.ap_index.specs.declared.key.Key.{Key}
use Rattle.ap_index.specs.declared.key.Key.TheVariants.{Atom, Integer, Structure}
use Rattle.ap_index.specs.declared.row.Row.{Row}
use Rattle.ap_index.specs.Keys.{same_key}
use Rattle.ap_index.specs.Index.{named, named_from, first_for, IsRowOf}
use Rattle.ap_listing.specs.declared.switch.Place.{Place}
use Rattle.ap_listing.specs.declared.switch.Place.TheVariants.{Nowhere, Clause, Line}
use Rattle.ap_listing.specs.Switch.{is_cell, clauses_for, lines_of, Table, table, Switch, on_term, on_constant, on_structure, first_place, switches}

-- the clauses at a place, where so many lines stand before instructions: those that the choices there name, or the clause itself
abbrev pub clauses_in : ℕ → List Instr → Place → List ℕ
clauses_in ahead is Nowhere = []
clauses_in ahead is (Clause l) = l ∷ []
clauses_in ahead is (Line n) = named (drop (n - ahead) is)

abbrev pub clauses_at : Table → Place → List ℕ
clauses_at t at = clauses_in (lines_of t.constants t.functors) t.instructions at

-- the line of a switch that stands at a place
abbrev pub line_at : List Switch → Place → Option Switch
line_at ss Nowhere = None
line_at ss (Clause l) = None
line_at ss (Line n) = slice_get ss n

-- the clauses to which a place leads a key, by that line, if there is one
abbrev pub led_by : Table → Key → Place → Option Switch → List ℕ
led_by t k at None = clauses_at t at
led_by t k at (Some (on_term unbound atomic list compound)) = clauses_at t at
led_by t k at (Some (on_constant es others)) = clauses_at t (first_place (same_key k) es others)
led_by t k at (Some (on_structure es others)) = clauses_at t (first_place (same_key k) es others)

abbrev pub led : List (List ℕ) → Table → Key → Place → List ℕ
led names t k at = led_by t k at (line_at (switches names t) at)

-- one of the places for constants, for lists and for structures, by a key's kind
abbrev pub by_kind : List (List ℕ) → Key → Place → Place → Place → Place
by_kind names (Atom a) atomic list compound = atomic
by_kind names (Integer z) atomic list compound = atomic
by_kind names (Structure f n) atomic list compound = if is_cell names (Structure f n) then list else compound

-- the clauses to which a switch leads a call whose first argument has this key
abbrev pub leads_from : List (List ℕ) → Table → Key → List Switch → List ℕ
leads_from names t k (on_term unbound atomic list compound ∷ ss) = led names t k (by_kind names k atomic list compound)
leads_from names t k _ = []

abbrev pub leads : List (List ℕ) → Table → Key → List ℕ
leads names t k = leads_from names t k (switches names t)

-- those to which it leads a call whose first argument is a variable
abbrev pub leads_unbound : Table → List Switch → List ℕ
leads_unbound t (on_term unbound atomic list compound ∷ ss) = clauses_at t unbound
leads_unbound t _ = []

-- A switch leads a call to the clauses of its predicate that ask for its first argument's key, or for none, in order.
abbrev pub LeadsLaw : Type 0
LeadsLaw = (names : List (List ℕ)) (code : Compiled) (p : Predicate) (t : Table) (k : Key) → IsAtomTable names → table names code p ≡ Some t
    → leads names t k ≡ clauses_for code (clause_places code p) k

-- It leads a call whose first argument is a variable to all of them, where the choices that name them are the predicate's own.
abbrev pub UnboundLaw : Type 0
UnboundLaw = (names : List (List ℕ)) (code : Compiled) (p : Predicate) (t : Table) → named (instructions_of code p) ≡ clause_places code p → table names code p ≡ Some t
    → leads_unbound t (switches names t) ≡ clause_places code p

-- What an index passes over, the switch leaves out: of the clauses from the index's first choice on, it leads to the same.
abbrev pub IndexLaw : Type 0
IndexLaw = (code : Compiled) (p : Predicate) (r : Row) (k : Key) → IsRowOf code p.start r
    → clauses_for code (named_from code (first_for r k)) k ≡ clauses_for code (clause_places code p) k
