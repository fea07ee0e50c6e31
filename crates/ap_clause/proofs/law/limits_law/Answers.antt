use Rattle.std.proofs.Common.{refl}
use Rattle.ap_clause.proofs.law.limits_law.Goals as goal

pub returns : goal.returns
returns c = record {
  variables = refl;
  arguments = refl;
  goals = refl;
  group = refl;
  clauses = refl;
}
