-- What is known of sections whose frames are closed, and of how many slots a frame has.
use Rattle.std.proofs.Common.{◌≡◌, ℕ, inl, inr, refl, subst, sym}
use Rattle.ap_core.specs.Tasks.{Task}
use Rattle.ap_frames.specs.declared.frame.Round.{Round}
use Rattle.ap_frames.specs.declared.frame.Round.TheVariants.{First, Draining, Later, Closed}
use Rattle.ap_standing.specs.Machine.{Machine}
use Rattle.ap_tie.specs.Sections.{Stack, section, bottom, parcall}
use Rattle.ap_tie.specs.Settled.{AreClosed}
use Rattle.ap_tied.specs.Ties.{IsCount, IsInOrder, IsInRound}

pub closed_in_order : (m : Machine) (c b : ℕ) (st : Stack) → AreClosed st → IsInOrder (section m c b st)
closed_in_order m c b bottom h = tt
closed_in_order m c b (parcall f q First w qs st) h = absurd h
closed_in_order m c b (parcall f q (Draining n) w qs st) h = absurd h
closed_in_order m c b (parcall f q (Later i) w qs st) h = absurd h
closed_in_order m c b (parcall f q Closed w qs st) h = (inl refl, h)

pub closed_in_round : (m : Machine) (c b : ℕ) (st : Stack) (t : Task) → AreClosed st → IsInRound (section m c b st) t
closed_in_round m c b bottom t h = tt
closed_in_round m c b (parcall f q First w qs st) t h = absurd h
closed_in_round m c b (parcall f q (Draining n) w qs st) t h = absurd h
closed_in_round m c b (parcall f q (Later i) w qs st) t h = absurd h
closed_in_round m c b (parcall f q Closed w qs st) t h = tt

-- ---- how many slots a frame has

pub same-count : (rd : Round) (k j n : ℕ) → j ≡ k → IsCount rd k n → IsCount rd j n
same-count rd k j n e h = subst (λ i. IsCount rd i n) (sym e) h

pub open-count : (rd : Round) (k n : ℕ) → (rd ≡ Closed → ⊥) → IsCount rd k n → k ≡ n
open-count rd k n h (inl e) = e
open-count rd k n h (inr e) = absurd (h e.0)

pub closed-count : (rd : Round) (k n : ℕ) → IsCount rd k n → IsCount Closed k n
closed-count rd k n (inl e) = inl e
closed-count rd k n (inr e) = inr (refl, e.1)
