use Rattle.std.proofs.Common.{◌≡◌, ℕ, ◌-◌, ◌≤◌, List, ◌++◌, length, vec_len}
use Rattle.ap_clause.specs.Fresh.{AreNext, with_lifted, atoms_from}
use Rattle.ap_clause.proofs.fresh.fresh_names.Given as goal

abbrev pub invariant-loop-alloc : goal.invariant-loop-alloc
invariant-loop-alloc l =
    (ks : List ℕ) × ((rest : List ℕ) → AreNext l.atoms l.from rest → AreNext l.fn.atoms 1 (ks ++ rest)) × (length ks ≡ length l.names.items)
    × (l.atoms ≡ with_lifted l.fn.atoms ks) × (l.names.items ≡ atoms_from (length l.fn.atoms) ks) × (length l.names.items ≤ l.fn.count)

abbrev pub decreases-loop-alloc : goal.decreases-loop-alloc
decreases-loop-alloc l = l.fn.count - vec_len l.names
