-- How many arguments the predicates of a table have.
use Rattle.std.specs.Prelude.{ℕ, slice_get, Option, Some, None}
use Rattle.ap_instr.specs.declared.compiled.Predicate.{Predicate}
use Rattle.ap_instr.specs.Code.{Compiled}

abbrev pub arity_of : Option Predicate → Option ℕ
arity_of None = None
arity_of (Some p) = Some p.arity

abbrev pub arity_at : Compiled → ℕ → Option ℕ
arity_at code n = arity_of (slice_get code.predicates n)
