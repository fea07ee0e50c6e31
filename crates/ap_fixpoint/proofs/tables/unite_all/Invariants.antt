use Rattle.std.proofs.Common.{◌≡◌, ◌++◌, drop}
use Rattle.ap_patterns.specs.Given.{patterns}
use Rattle.ap_fixpoint.specs.Rounds.{steps, changed}
use Rattle.ap_fixpoint.proofs.tables.unite_all.Given as goal

abbrev pub invariant-loop-g : goal.invariant-loop-g
invariant-loop-g l = record {
  slots : l.changed.items ++ changed l.given (drop l.g-index l.given) (patterns l.table) ≡ changed l.given l.given (patterns l.initial.table);
  table : steps l.given (drop l.g-index l.given) (patterns l.table) ≡ steps l.given l.given (patterns l.initial.table);
}
