-- The redone slot itself stays as it was until it stands otherwise.
use Rattle.std.proofs.Common.{◌≡◌, ℕ, zero, suc, ◌+◌, ◌-◌, ◌<◌, ◌≤◌, Bool, true, List, [], ◌∷◌, length, slice_get, Option, Some, None, refl, ap, sym, ◌∙◌, arith}
use Rattle.std.specs.Ordering.{nat_cmp}
use Rattle.std.specs.declared.cmp.Ordering.TheVariants.{Equal}
use Rattle.ap_frames.specs.declared.slots.Slot.{Slot}
use Rattle.ap_frames.specs.declared.frame.Round.{Round}
use Rattle.ap_frames.specs.declared.frame.Round.TheVariants.{First, Draining, Later, Closed}
use Rattle.ap_frames.specs.Rows.{Row}
use Rattle.ap_frames.specs.Rounds.{numbered, reset, reset_by, new_round, begun_in}
use Rattle.ap_frames.proofs.Numbered.{length-numbered}
use Rattle.ap_term.proofs.Facts.{cmp_equal}

kept-at : {S T : Type 0} (i n k : ℕ) (xs : List (Slot S T)) → n + k ≡ i → slice_get (numbered (reset_by i) n xs) k ≡ slice_get xs k
kept-at i n k [] e = refl
kept-at i n zero (x ∷ xs) e = let c : nat_cmp n i ≡ Equal = cmp_equal n i (omega arith) in ap (λ o. Some (reset o x)) c
kept-at i n (suc k) (x ∷ xs) e = kept-at i (n + 1) k xs (omega arith)

pub round_keeps : {S T : Type 0} (i : ℕ) (xs : List (Slot S T)) → 0 < i → slice_get (numbered (reset_by i) 1 xs) (i - 1) ≡ slice_get xs (i - 1)
round_keeps i xs h = kept-at i 1 (i - 1) xs (omega arith)

pub begun_keeps : {S T : Type 0} (d : Round) (i rest : ℕ) (f : Row S T) → 0 < i → slice_get (begun_in d i rest f).slots (i - 1) ≡ slice_get f.slots (i - 1)
begun_keeps Closed i rest f h = round_keeps i f.slots h
begun_keeps First i rest f h = refl
begun_keeps (Draining b) i rest f h = refl
begun_keeps (Later j) i rest f h = refl

pub begun_length : {S T : Type 0} (d : Round) (i rest : ℕ) (f : Row S T) → length (begun_in d i rest f).slots ≡ length f.slots
begun_length Closed i rest f = length-numbered (reset_by i) 1 f.slots
begun_length First i rest f = refl
begun_length (Draining b) i rest f = refl
begun_length (Later j) i rest f = refl

pub ruleset begun_rules = (round_keeps, begun_keeps, begun_length, length-numbered)
