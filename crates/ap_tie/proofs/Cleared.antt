-- Frames that have their slots, and those that are cleared.
use Rattle.std.proofs.Common.{◌≡◌, ◌∙◌, ℕ, true, is_some, List, refl, ap, sym}
use Rattle.std.proofs.lemmas.Bool.{false≢true}
use Rattle.ap_term.specs.Tree.{Trees, none, more}
use Rattle.ap_core.specs.Tasks as core
use Rattle.ap_core.specs.Conditions.{some_has_more, is_open}
use Rattle.ap_core.specs.Relation.{Rules}
use Rattle.ap_frames.specs.declared.frame.Round.{Round}
use Rattle.ap_frames.specs.declared.frame.Round.TheVariants.{First, Draining, Later, Closed}
use Rattle.ap_frames.specs.declared.verdict.Verdict.TheVariants.{Wait}
use Rattle.ap_frames.specs.Verdicts.{judged, next_redo}
use Rattle.ap_parcall_laws.proofs.Rows.{more-alike}
use Rattle.ap_instr.specs.Code.{Compiled}
use Rattle.ap_tie.specs.Sections.{Row, Slots, no_slot, slot, Held, rows}
use Rattle.ap_tie.specs.Tied.{round_of, UnlessCleared, HoldsSlots}
use Rattle.ap_tie.specs.Settled.{stays}
use Rattle.ap_tie.proofs.Answered.{alike}

-- ---- rounds that aren't closed

pub open-round : (rd : Round) → is_open (round_of rd) ≡ true → rd ≡ Closed → ⊥
open-round rd h e = false≢true (sym (ap (λ d. is_open (round_of d)) e) ∙ h)

pub judged-round : (q : ℕ) (rd : Round) (xs : List Row) → (judged q rd xs ≡ Wait → ⊥) → rd ≡ Closed → ⊥
judged-round q rd xs n e = n (ap (λ d. judged q d xs) e)

pub staying-round : (rd : Round) (xs : List Row) → stays rd xs ≡ true → rd ≡ Closed → ⊥
staying-round rd xs h e = false≢true (sym (ap (λ d. stays d xs) e) ∙ h)

-- ---- slots that are there

pub whole-stands : (rd : Round) (w : Slots) (v : core.Slots) (Stands : Type 0) → (rd ≡ Closed → w ≡ no_slot → ⊥) → UnlessCleared rd w v Stands → Stands
whole-stands First w v Stands n h = h
whole-stands (Draining i) w v Stands n h = h
whole-stands (Later i) w v Stands n h = h
whole-stands Closed no_slot v Stands n h = absurd (n refl refl)
whole-stands Closed (slot x j w) v Stands n h = h

-- one whose round isn't closed has its slots
pub open-stands : (rd : Round) (w : Slots) (v : core.Slots) (Stands : Type 0) → (rd ≡ Closed → ⊥) → UnlessCleared rd w v Stands → Stands
open-stands rd w v Stands n h = whole-stands rd w v Stands (λ d e. n d) h

-- and so has one with a slot
pub slot-stands : (rd : Round) (x : Row) (j : Held) (w : Slots) (v : core.Slots) (Stands : Type 0) → UnlessCleared rd (slot x j w) v Stands → Stands
slot-stands First x j w v Stands h = h
slot-stands (Draining i) x j w v Stands h = h
slot-stands (Later i) x j w v Stands h = h
slot-stands Closed x j w v Stands h = h

pub stands-there : (code : Compiled) (p : Rules) (q b : ℕ) (gs : Trees) (rd : Round) (w : Slots) (v : core.Slots) → HoldsSlots code p q b gs w v → UnlessCleared rd w v (HoldsSlots code p q b gs w v)
stands-there code p q b gs First w v h = h
stands-there code p q b gs (Draining i) w v h = h
stands-there code p q b gs (Later i) w v h = h
stands-there code p q b none Closed no_slot v h = ap some_has_more h
stands-there code p q b (more g gs) Closed no_slot v h = absurd h
stands-there code p q b gs Closed (slot x j w) v h = h

-- ---- whether a slot has an alternative left

more-there : (code : Compiled) (p : Rules) (q b : ℕ) (gs : Trees) (w : Slots) (v : core.Slots) → HoldsSlots code p q b gs w v → some_has_more v ≡ is_some (next_redo (rows w))
more-there code p q b gs w v h = more-alike p.loud q (rows w) v (alike code p q b gs w v h)

pub more-left : (code : Compiled) (p : Rules) (q b : ℕ) (gs : Trees) (rd : Round) (w : Slots) (v : core.Slots) → UnlessCleared rd w v (HoldsSlots code p q b gs w v) → some_has_more v ≡ is_some (next_redo (rows w))
more-left code p q b gs First w v h = more-there code p q b gs w v h
more-left code p q b gs (Draining i) w v h = more-there code p q b gs w v h
more-left code p q b gs (Later i) w v h = more-there code p q b gs w v h
more-left code p q b gs Closed no_slot v h = h
more-left code p q b gs Closed (slot x j w) v h = more-there code p q b gs (slot x j w) v h
