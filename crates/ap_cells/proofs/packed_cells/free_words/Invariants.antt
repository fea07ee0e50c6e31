use Rattle.std.proofs.Common.{◌≡◌, ℕ, List, length, drop}
use Rattle.ap_cells.specs.Packing.{raws_in}
use Rattle.ap_cells.specs.Store.{freed}
use Rattle.ap_cells.proofs.packed_cells.free_words.Given as goal

abbrev pub invariant-loop-place : goal.invariant-loop-place
invariant-loop-place l = ((apart : List ℕ) → freed (drop l.place-index l.places) (raws_in l.words apart) ≡ freed l.places (raws_in l.initial.words apart)) × (length l.words ≡ length l.initial.words)
