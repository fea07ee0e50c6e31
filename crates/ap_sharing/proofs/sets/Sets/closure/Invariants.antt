use Rattle.std.proofs.Common.{◌≡◌, false, drop}
use Rattle.ap_sharing.specs.Sets.{IsAscending, grown_all, closure, too_many}
use Rattle.ap_sharing.proofs.Closures.{IsClosed}
use Rattle.ap_sharing.proofs.sets.Sets.closure.Given as goal

abbrev pub invariant-loop-s : goal.invariant-loop-s
invariant-loop-s l = record {
  rest : grown_all l.closed (drop l.s-index l.s-items) ≡ closure l.self;
  few : too_many l.closed ≡ false;
  ascending : IsAscending l.closed;
  closed : IsClosed l.closed;
}
