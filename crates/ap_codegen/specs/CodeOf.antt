-- Steps of a clause's code that call other predicates.
use Rattle.std.specs.Prelude.{Bool, true, not}
use Rattle.ap_instr.specs.Step.{Step, call, execute}
use Rattle.ap_codegen.specs.Permanent.{is_builtin_key}

-- whether the step calls no predicate of built-in goals
abbrev pub calls_apart : Step → Bool
calls_apart (call p n) = not (is_builtin_key (p, n))
calls_apart (execute p n) = not (is_builtin_key (p, n))
calls_apart _ = true
