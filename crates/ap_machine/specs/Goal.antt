-- What a built-in goal makes of cells, by the places of its two arguments.
use Rattle.std.specs.Prelude.{◌≡◌, ℕ, Bool, true, false, List}
use Rattle.ap_cells.specs.declared.cells.Raw.{Raw}
use Rattle.ap_instr.specs.declared.builtins.Builtin.{Builtin}
use Rattle.ap_instr.specs.declared.builtins.Builtin.TheVariants.{True, Fail, Relation}
use Rattle.ap_standing.specs.Solved.{Solved}

abbrev pub SolvedGoal : Builtin → List Raw → List Raw → ℕ → ℕ → Bool → Type 0
SolvedGoal True old new a b r = (new ≡ old) × (r ≡ true)
SolvedGoal Fail old new a b r = (new ≡ old) × (r ≡ false)
SolvedGoal (Relation relation) old new a b r = Solved relation old new a b r
