use Rattle.std.proofs.Common.{◌≡◌, ◌≤◌, ◌++◌, length, drop}
use Rattle.std.specs.List.{flat_map}
use Rattle.ap_term.specs.TermView.{trees_of}
use Rattle.ap_term.specs.Goals.{calls}
use Rattle.ap_cge.specs.Stripped.{stripped_part}
use Rattle.ap_alike.proofs.Places.{FitsSo}
use Rattle.ap_alike.proofs.fitting.fit_body.Given as goal

abbrev pub invariant-loop-part : goal.invariant-loop-part
invariant-loop-part l = record {
  alike : FitsSo l.parts l.part-index l.body;
  same : flat_map stripped_part l.body ++ calls (trees_of (drop l.at l.goals)) ≡ calls (trees_of l.goals);
  few : l.at ≤ length l.goals;
}
