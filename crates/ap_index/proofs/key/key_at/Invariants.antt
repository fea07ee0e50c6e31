use Rattle.std.proofs.Common.{◌≡◌}
use Rattle.ap_index.specs.Keys.{key_at}
use Rattle.ap_index.proofs.key.key_at.Given as goal

abbrev pub invariant-loop-place : goal.invariant-loop-place
invariant-loop-place l = key_at l.code l.at ≡ key_at l.code l.place
