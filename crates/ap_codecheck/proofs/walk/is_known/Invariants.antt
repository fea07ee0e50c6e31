use Rattle.std.proofs.Common.{◌≡◌, ℕ, ◌<◌, slice_get, Some}
use Rattle.ap_codecheck.specs.declared.walk.Way.{Way}
use Rattle.ap_codecheck.specs.Held.{AreAlike}
use Rattle.ap_codecheck.proofs.walk.is_known.Given as goal

abbrev pub invariant-loop-way : goal.invariant-loop-way
invariant-loop-way l = (k : ℕ) (w : Way) → k < l.way-index → slice_get l.ways k ≡ Some w → w.place ≡ l.place → AreAlike w.shape l.shape → ⊥
