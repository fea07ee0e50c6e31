-- The answer that the call of a goal gives.
use Rattle.std.specs.Prelude.{Option, Some, None}
use Rattle.ap_spec.specs.declared.builtins.Called.{Called}
use Rattle.ap_spec.specs.declared.builtins.Called.TheVariants.{ByClauses, Answered}
use Rattle.ap_term.specs.Substitution.{Subst}

-- None where the clauses decide, else the built-in's answer
abbrev pub answer_of : Called → Option (Option Subst)
answer_of ByClauses = None
answer_of (Answered s) = Some s
