use Rattle.std.proofs.Common.{◌≡◌, take, false}
use Rattle.std.specs.List.{list_any}
use Rattle.ap_absunify.specs.declared.states.State.TheVariants.{Reachable}
use Rattle.ap_conditions.specs.Simplified.{never, left}
use Rattle.ap_conditions.proofs.simplifications.simplify_reachable.Given as goal

abbrev pub invariant-loop-check : goal.invariant-loop-check
invariant-loop-check l = record {
  none : list_any (never (Reachable l.share l.free)) (take l.check-index l.checks) ≡ false;
  kept : l.kept ≡ left (Reachable l.share l.free) (take l.check-index l.checks);
}
