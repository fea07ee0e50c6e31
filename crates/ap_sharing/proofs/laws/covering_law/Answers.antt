use Rattle.ap_term.specs.Vars.{occurs}
use Rattle.ap_sharing.proofs.Covers.{Member-widen, Member-norm, ground-covers, unite_first-covers, unite_second-covers, project-covers}
use Rattle.ap_sharing.proofs.laws.covering_law.Goals as goal

pub returns : goal.returns
returns c = record {
  ground = ground-covers;
  unite_first = unite_first-covers;
  unite_second = unite_second-covers;
  project = project-covers;
  widen = λ sh f h u x o. Member-widen sh (λ y. occurs u (f y)) (h u x o);
  norm = λ sh f h u x o. Member-norm sh (λ y. occurs u (f y)) (h u x o);
}
