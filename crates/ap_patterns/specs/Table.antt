-- Tables: one call and one success pattern for each predicate.
use Rattle.std.specs.Prelude.{ℕ, suc, Bool, ◌==◌, ◌&&◌, if◌then◌else◌, List, [], ◌∷◌, Option, Some, None, ◌≡◌}
use Rattle.std.specs.Option.{option_map}
use Rattle.std.specs.HashMap.{HashMap, get}
use Rattle.ap_term.specs.Tree.{Tree, var, int, atom, node, count_trees}
use Rattle.ap_absunify.specs.declared.states.State.{State}
use Rattle.ap_absunify.specs.declared.states.State.TheVariants.{Unreachable}
use Rattle.ap_patterns.specs.declared.tables.Predicate.{Predicate}
use Rattle.ap_patterns.specs.declared.tables.Row.{Row}

-- the predicate of a goal or of a head
abbrev pub predicate_of : Tree → Option Predicate
predicate_of (var x) = None
predicate_of (int z) = None
predicate_of (atom a) = Some (record { name = a; arity = 0 })
predicate_of (node a ts) = Some (record { name = a; arity = count_trees ts })

abbrev pub same_predicate : Predicate → Predicate → Bool
same_predicate p q = (p.name == q.name) && (p.arity == q.arity)

-- the first row of a predicate
abbrev pub row_of : List Row → Predicate → Option Row
row_of [] p = None
row_of (r ∷ rs) p = if same_predicate r.predicate p then Some r else row_of rs p

abbrev pub call_of : Option Row → State
call_of None = Unreachable
call_of (Some r) = r.call

abbrev pub success_of : Option Row → State
success_of None = Unreachable
success_of (Some r) = r.success

-- the call pattern of a predicate: no call is reached where it has no row
abbrev pub calls : List Row → Predicate → State
calls rs p = call_of (row_of rs p)

-- the success pattern of a predicate: no answer is reached where it has no row
abbrev pub successes : List Row → Predicate → State
successes rs p = success_of (row_of rs p)

-- the place of a predicate's first row, and the number of rows where it has none
abbrev pub place_of : List Row → Predicate → ℕ
place_of [] p = 0
place_of (r ∷ rs) p = if same_predicate r.predicate p then 0 else suc (place_of rs p)

-- the rows with the first row of a predicate changed, or with a new one
abbrev pub set_row : (Row → Row) → Row → List Row → Predicate → List Row
set_row f new [] p = new ∷ []
set_row f new (r ∷ rs) p = if same_predicate r.predicate p then f r ∷ rs else r ∷ set_row f new rs p

-- the rows with another call pattern, and with another success pattern
abbrev pub set_call : List Row → Predicate → State → List Row
set_call rs p s = set_row (λ r. record r { call = s }) (record { predicate = p; call = s; success = Unreachable }) rs p

abbrev pub set_success : List Row → Predicate → State → List Row
set_success rs p s = set_row (λ r. record r { success = s }) (record { predicate = p; call = Unreachable; success = s }) rs p

-- ---- where the rows are

-- the place of a predicate's first row, where it has one
abbrev pub found_at : List Row → Predicate → Option ℕ
found_at [] p = None
found_at (r ∷ rs) p = if same_predicate r.predicate p then Some 0 else option_map suc (found_at rs p)

-- a predicate's name and arity, by which it is looked up
abbrev pub key_of : Predicate → ℕ × ℕ
key_of p = (p.name, p.arity)

abbrev pub is_key : ℕ × ℕ → ℕ × ℕ → Bool
is_key k l = (k.0 == l.0) && (k.1 == l.1)

-- each predicate is looked up at the place of its first row
abbrev pub ArePlaces : {S : Type 0} → HashMap (ℕ × ℕ) ℕ S → List Row → Type 0
ArePlaces m rs = (p : Predicate) → get is_key m (key_of p) ≡ found_at rs p
