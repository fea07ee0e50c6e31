-- An index that leads to places before one alone.
use Rattle.std.specs.Prelude.{ℕ, Bool, true, ◌==◌, ◌||◌, ◌&&◌, nat_lt, nat_le, length, Option, Some, None}
use Rattle.std.specs.List.{list_all}
use Rattle.ap_index.specs.declared.row.Row.{Row}
use Rattle.ap_index.specs.declared.row.TheConstants.{NONE}
use Rattle.ap_index.specs.declared.row.Link.{Link}
use Rattle.ap_index.specs.declared.rows.Rows.{Rows}
use Rattle.ap_index.specs.declared.choice.Next.{Next}
use Rattle.ap_index.specs.declared.choice.Next.TheVariants.{Any, Row as RowNext, Linked}
use Rattle.ap_index.specs.declared.choice.Choice.{Choice}
use Rattle.ap_index.specs.declared.index.Index.{Index}

-- the place, if there is one
abbrev pub is_within : ℕ → Option ℕ → Bool
is_within n None = true
is_within n (Some at) = nat_lt at n

-- that of a slot, if there is one
abbrev pub is_slot_within : ℕ → ℕ → Bool
is_slot_within n at = (at == NONE) || nat_lt at n

abbrev pub is_row_within : ℕ → Row → Bool
is_row_within n r = list_all (is_slot_within n) r.slots.items

abbrev pub is_link_within : ℕ → Link → Bool
is_link_within n l = is_within n l.next

abbrev pub is_next_within : ℕ → Next → Bool
is_next_within n Any = true
is_next_within n RowNext = true
is_next_within n (Linked l) = is_link_within n l

abbrev pub is_choice_within : ℕ → Choice → Bool
is_choice_within n c = is_within n c.named.behind && is_next_within n c.next

abbrev pub are_rows_within : ℕ → Rows → Bool
are_rows_within n r = (nat_le (length r.entries.items) n && list_all (is_row_within n) r.rows.items) && list_all (is_link_within n) r.links.items

abbrev pub is_index_within : ℕ → Index → Bool
is_index_within n i = are_rows_within n i.rows && list_all (is_choice_within n) i.choices.items
