-- Which calls of what stands in memory fail: they are numbered from 1 on.
use Rattle.std.specs.Prelude.{ℕ, ◌+◌, ◌-◌, ◌^◌, ◌==◌, min, List, [], ◌∷◌, Option, None, Some, if◌then◌else◌}
use Rattle.ap_outside.specs.declared.mem_sink.Refusal.{Refusal}

-- the number of the call behind so many; it stops at the greatest u64
abbrev pub next_call : ℕ → ℕ
next_call calls = min (calls + 1) (2 ^ 64 - 1)

-- how many bytes a call takes before it fails, where it fails; the first refusal of a call counts
abbrev pub takes_at : List Refusal → ℕ → Option ℕ
takes_at [] call = None
takes_at (refusal ∷ refusals) call = if refusal.call == call then Some refusal.takes else takes_at refusals call
