use Rattle.std.proofs.Common.{◌≡◌, map, drop}
use Rattle.ap_term.specs.Substitution.{value}
use Rattle.ap_spec.specs.Pairs.{pair_of}
use Rattle.ap_spec.proofs.substitutions.SubstBindings.term_for.Given as goal

abbrev pub invariant-loop-pair : goal.invariant-loop-pair
invariant-loop-pair l = value (map pair_of (drop l.pair-index l.pair-items)) l.variable ≡ value (map pair_of l.pair-items) l.variable
