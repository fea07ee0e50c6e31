-- The predicates of clauses, put behind those of a table one after another.
use Rattle.std.specs.Prelude.{if◌then◌else◌, List, [], ◌∷◌, ◌++◌, Option, Some, None}
use Rattle.std.specs.List.{list_any}
use Rattle.ap_term.specs.Goals.{Program}
use Rattle.ap_instr.specs.Table.{Key, is_key, head_key}

abbrev pub with_key : List Key → Option Key → List Key
with_key ks None = ks
with_key ks (Some k) = if list_any (is_key k) ks then ks else ks ++ k ∷ []

abbrev pub with_heads : List Key → Program → List Key
with_heads ks [] = ks
with_heads ks (c ∷ cs) = with_heads (with_key ks (head_key c.head)) cs
