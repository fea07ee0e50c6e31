-- Where the switch of a predicate leads: by what its clauses ask of the first argument.
use Rattle.std.specs.Prelude.{ℕ, ◌+◌, ◌==◌, Bool, true, false, not, ◌&&◌, if◌then◌else◌, List, [], ◌∷◌, ◌++◌, length, nat_le, codes, Option, Some, None}
use Rattle.std.specs.List.{filter, list_any}
use Rattle.std.specs.Str.{bytes_eq}
use Rattle.ap_writer.specs.Text.{name_at}
use Rattle.ap_instr.specs.declared.instruction.Instr.{Instr}
use Rattle.ap_instr.specs.declared.instruction.Instr.TheVariants.{Try, Retry, Trust}
use Rattle.ap_instr.specs.declared.compiled.Predicate.{Predicate}
use Rattle.ap_instr.specs.Code.{Compiled, instructions_of}
use Rattle.ap_instr.specs.StandsFor.{clause_places}
use Rattle.ap_index.specs.declared.key.Key.{Key}
use Rattle.ap_index.specs.declared.key.Key.TheVariants.{Atom, Integer, Structure}
use Rattle.ap_index.specs.Keys.{same_key, key_at}
use Rattle.ap_listing.specs.declared.switch.Place.{Place}
use Rattle.ap_listing.specs.declared.switch.Place.TheVariants.{Nowhere, Clause, Line}
use Rattle.ap_listing.specs.declared.switch.Entry.{Entry}

-- ---- kinds of keys

abbrev pub is_constant : Key → Bool
is_constant (Atom a) = true
is_constant (Integer z) = true
is_constant (Structure f n) = false

-- a list's cell
abbrev pub is_cell : List (List ℕ) → Key → Bool
is_cell names (Structure f n) = bytes_eq (name_at names f) (codes ".") && (n == 2)
is_cell names _ = false

-- a structure that is no list's cell
abbrev pub is_functor : List (List ℕ) → Key → Bool
is_functor names k = not (is_constant k) && not (is_cell names k)

-- ---- the clauses for each key

-- what a clause asks for is this key, or it asks for none
abbrev pub is_met : Key → Option Key → Bool
is_met k None = true
is_met k (Some asked) = same_key asked k

abbrev pub asks_nothing : Option Key → Bool
asks_nothing None = true
asks_nothing (Some asked) = false

-- the clauses that a call with this first argument is to try: those that ask for it, and those that ask for none
abbrev pub clauses_for : Compiled → List ℕ → Key → List ℕ
clauses_for code ls k = filter (λ l. is_met k (key_at code l)) ls

-- those that a call with any other first argument is to try
abbrev pub open_clauses : Compiled → List ℕ → List ℕ
open_clauses code ls = filter (λ l. asks_nothing (key_at code l)) ls

abbrev pub with_key : List Key → Option Key → List Key
with_key ks None = ks
with_key ks (Some k) = if list_any (same_key k) ks then ks else ks ++ k ∷ []

-- keys, and then those that clauses ask for, each once
abbrev pub with_keys : Compiled → List Key → List ℕ → List Key
with_keys code ks [] = ks
with_keys code ks (l ∷ ls) = with_keys code (with_key ks (key_at code l)) ls

-- the keys that clauses ask for, in the order in which they are first asked for
abbrev pub keys_of : Compiled → List ℕ → List Key
keys_of code ls = with_keys code [] ls

-- each with the clauses for it
abbrev pub groups : Compiled → List ℕ → List Key → List (Key × List ℕ)
groups code ls [] = []
groups code ls (k ∷ ks) = (k, clauses_for code ls k) ∷ groups code ls ks

-- ---- chains

-- the choices of clauses behind a `try`
abbrev pub rest_of : ℕ → List ℕ → List Instr
rest_of l [] = Trust l ∷ []
rest_of l (m ∷ ls) = Retry l ∷ rest_of m ls

-- the choices of two clauses or more; fewer need none
abbrev pub chain_of : List ℕ → List Instr
chain_of (l ∷ m ∷ ls) = Try l ∷ rest_of m ls
chain_of _ = []

-- where clauses are whose chain stands from a line on, if they have one
abbrev pub place_for : ℕ → List ℕ → Place
place_for line [] = Nowhere
place_for line (l ∷ []) = Clause l
place_for line ls = Line line

-- the chains of groups, one behind another
abbrev pub chains : List (Key × List ℕ) → List Instr
chains [] = []
chains (g ∷ gs) = chain_of g.1 ++ chains gs

-- where their keys lead, the first chain standing from a line on
abbrev pub entries : ℕ → List (Key × List ℕ) → List Entry
entries line [] = []
entries line (g ∷ gs) = record { key = g.0; place = place_for line g.1 } ∷ entries (line + length (chain_of g.1)) gs

-- ---- the switch

-- how many lines it has: one for constants and one for structures where some key is such
abbrev pub lines_of : Bool → Bool → ℕ
lines_of true true = 3
lines_of true false = 2
lines_of false true = 2
lines_of false false = 1

abbrev pub has_constants : List Key → Bool
has_constants ks = list_any is_constant ks

abbrev pub has_functors : List (List ℕ) → List Key → Bool
has_functors names ks = list_any (is_functor names) ks

-- a switch: where each key leads, and all others, and the instructions behind its lines
pub record Table : Type 0 where
  pub constants : Bool
  pub functors : Bool
  pub entries : List Entry
  pub others : Place
  pub instructions : List Instr

-- of a predicate with these instructions, behind which the chains of groups stand, and that of the clauses that ask for nothing
abbrev pub table_of : List ℕ → Bool → Bool → List Instr → List (Key × List ℕ) → Table
table_of open_ones constants functors own gs = record {
  constants = constants;
  functors = functors;
  entries = entries (lines_of constants functors + length own) gs;
  others = place_for (lines_of constants functors + length (own ++ chains gs)) open_ones;
  instructions = (own ++ chains gs) ++ chain_of open_ones;
}

abbrev pub has_two : List ℕ → Bool
has_two (l ∷ m ∷ ls) = true
has_two _ = false

abbrev pub table_by_keys : List (List ℕ) → Compiled → Predicate → List ℕ → List Key → Option Table
table_by_keys names code p ls [] = None
table_by_keys names code p ls (k ∷ ks) =
    Some (table_of (open_clauses code ls) (has_constants (k ∷ ks)) (has_functors names (k ∷ ks)) (instructions_of code p) (groups code ls (k ∷ ks)))

-- that of clauses at some places
abbrev pub table_at : List (List ℕ) → Compiled → Predicate → List ℕ → Option Table
table_at names code p ls = if has_two ls then table_by_keys names code p ls (keys_of code ls) else None

-- Whether chains stay short: at most 32 of the clauses at some places ask for nothing, each of which stands in the chain of each key.
abbrev pub is_short : Compiled → List ℕ → Bool
is_short code ls = nat_le (length (open_clauses code ls)) 32

-- A predicate has a switch where it has two clauses or more, one of them asks for a first argument, and chains stay short.
abbrev pub table : List (List ℕ) → Compiled → Predicate → Option Table
table names code p = if is_short code (clause_places code p) then table_at names code p (clause_places code p) else None

-- ---- its lines

-- the one that chooses by the kind of the first argument, in the order variable, constant, list, structure; and those that choose by
-- which constant it is, or which structure
pub data Switch : Type 0 where
  on_term : Place → Place → Place → Place → Switch
  on_constant : List Entry → Place → Switch
  on_structure : List Entry → Place → Switch

-- where the first entry leads whose key passes, or else all others
abbrev pub first_place : (Key → Bool) → List Entry → Place → Place
first_place test [] others = others
first_place test (e ∷ es) others = if test e.key then e.place else first_place test es others

abbrev pub constants_place : Table → Place
constants_place t = if t.constants then Line 1 else t.others

abbrev pub structures_place : Table → Place
structures_place t = if t.functors then Line (if t.constants then 2 else 1) else t.others

abbrev pub term_switch : List (List ℕ) → Table → Switch
term_switch names t = on_term (Line (lines_of t.constants t.functors)) (constants_place t) (first_place (is_cell names) t.entries t.others) (structures_place t)

abbrev pub constants_switch : Table → Switch
constants_switch t = on_constant (filter (λ e. is_constant e.key) t.entries) t.others

abbrev pub structures_switch : List (List ℕ) → Table → Switch
structures_switch names t = on_structure (filter (λ e. is_functor names e.key) t.entries) t.others

abbrev pub some_switch : Bool → Switch → List Switch
some_switch true s = s ∷ []
some_switch false s = []

-- the lines of a switch, in order
abbrev pub switches : List (List ℕ) → Table → List Switch
switches names t =
    term_switch names t ∷ (some_switch t.constants (constants_switch t) ++ some_switch t.functors (structures_switch names t))
