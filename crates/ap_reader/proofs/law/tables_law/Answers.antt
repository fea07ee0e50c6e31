use Rattle.std.proofs.Common.{refl}
use Rattle.ap_reader.proofs.law.tables_law.Goals as goal

pub returns : goal.returns
returns c = record {
  operators_are = refl;
  levels = refl;
  brackets = refl;
}
