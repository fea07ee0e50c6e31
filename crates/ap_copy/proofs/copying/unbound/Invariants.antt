use Rattle.std.proofs.Common.{◌≡◌, length}
use Rattle.ap_copy.specs.Copies.{IsNames}
use Rattle.ap_copy.proofs.copying.unbound.Given as goal

abbrev pub invariant-loop : goal.invariant-loop
invariant-loop l = record { names : IsNames l.block.items; len : length l.block.items ≡ l.counter }
