-- When the slots of a frame stand as those of the core.
use Rattle.std.specs.Prelude.{◌≡◌, ℕ, zero, suc, ◌+◌, ◌-◌, Bool, true, not, List, [], ◌∷◌, length}
use Rattle.std.proofs.Common.{◌⊎◌}
use Rattle.ap_term.specs.Tree.{Tree}
use Rattle.ap_core.specs.declared.tasks.Round.{Round as CoreRound}
use Rattle.ap_core.specs.declared.tasks.Round.TheVariants as core_round
use Rattle.ap_core.specs.declared.tasks.Idle.TheVariants as idle_kind
use Rattle.ap_core.specs.declared.tasks.Busy.{Busy}
use Rattle.ap_core.specs.declared.tasks.Busy.TheVariants as busy_kind
use Rattle.ap_core.specs.Tasks as core
use Rattle.ap_core.specs.Tasks.{Answer, Task, task, exhausted, no_slot, slot, Progress, idle, stored, busy, held, redone, again, drained}
use Rattle.ap_core.specs.Conditions as conditions
use Rattle.ap_core.specs.Conditions.{is_running, is_exhausted, stopped_cost}
use Rattle.ap_core.specs.Relation.{states, as_states, put_away}
use Rattle.ap_frames.specs.declared.slots.Slot.{Slot}
use Rattle.ap_frames.specs.declared.slots.Stand.{Stand}
use Rattle.ap_frames.specs.declared.slots.Stand.TheVariants.{Ready, Waiting, Running, Answered, Replayed, Ended, GivenBack}
use Rattle.ap_frames.specs.declared.slots.Run.TheVariants.{First, Redone, Drained}
use Rattle.ap_frames.specs.declared.slots.Ending.{Ending}
use Rattle.ap_frames.specs.declared.slots.Ending.TheVariants as ending
use Rattle.ap_frames.specs.declared.frame.Round.{Round}
use Rattle.ap_frames.specs.declared.frame.Round.TheVariants as round
use Rattle.ap_frames.specs.declared.verdict.Verdict.{Verdict}
use Rattle.ap_frames.specs.declared.verdict.Verdict.TheVariants as verdicts
use Rattle.ap_frames.specs.Slots.{tuples_of}
use Rattle.ap_frames.specs.Verdicts.{ended_cost}

-- ---- one slot

abbrev pub busy_of : Ending → Busy
busy_of ending.Failed = busy_kind.Failed
busy_of ending.Spent = busy_kind.Spent
busy_of ending.Stopped = busy_kind.Stopped
busy_of (ending.Raised e) = busy_kind.Raised e

-- it waits: for its goal's search, or with all n answers stored
abbrev pub WaitsAs : ℕ → Progress → Type 0
WaitsAs n y = ((y ≡ idle idle_kind.Waiting) × (n ≡ 0)) ⊎ ((a : Answer) × (rest : List Answer) × (y ≡ stored (a ∷ rest)) × (n ≡ length rest + 1))

-- it has an answer, which cost c in this round, and the task t goes on behind it
abbrev pub HasAnswer : Task → ℕ → Progress → Type 0
HasAnswer t c y = (m : List Answer) × (a : Answer) × ((y ≡ held m a t c) ⊎ (y ≡ again m a t c))

-- it stands at number k, from 0, of n stored answers: those behind it are its alternatives
abbrev pub ReplaysAs : ℕ → ℕ → Progress → Type 0
ReplaysAs k n y = (q : ℕ) × (c : ℕ) × (rest : List Answer) × HasAnswer (task q c (states (as_states rest) exhausted)) 0 y × (n ≡ (k + 1) + length rest)

-- it ran to that end and spent c since it was given r; a drained one was given something else
abbrev pub EndsAs : ℕ → Ending → ℕ → Progress → Type 0
EndsAs r e c y =
    ((t : Task) × (y ≡ busy (busy_of e) t) × (c ≡ stopped_cost r 0 (busy_of e) t))
    ⊎ (((m : List Answer) × (t : Task) × (i : ℕ) × (y ≡ redone m (busy_of e) t i) × (c ≡ stopped_cost r i (busy_of e) t))
    ⊎ ((m : List Answer) × (t : Task) × (i : ℕ) × (d : ℕ) × (y ≡ drained m (busy_of e) t i d)))

-- of a frame with the rest r and a slot with n stored answers
abbrev pub StandsAs : {S : Type 0} → ℕ → Stand S → ℕ → Progress → Type 0
StandsAs r Ready n y = y ≡ idle idle_kind.Ready
StandsAs r Waiting n y = WaitsAs n y
StandsAs r GivenBack n y = y ≡ idle idle_kind.GivenBack
StandsAs r (Running First) n y = (b : Busy) × (t : Task) × (y ≡ busy b t) × (is_running b ≡ true)
StandsAs r (Running Redone) n y = (m : List Answer) × (b : Busy) × (t : Task) × (i : ℕ) × (y ≡ redone m b t i) × (is_running b ≡ true)
StandsAs r (Running Drained) n y = (m : List Answer) × (b : Busy) × (t : Task) × (i : ℕ) × (d : ℕ) × (y ≡ drained m b t i d) × (is_running b ≡ true)
StandsAs r (Answered a) n y = (t : Task) × HasAnswer t a.cost y × (not (is_exhausted t) ≡ a.has_more)
StandsAs r (Replayed k) n y = ReplaysAs k n y
StandsAs r (Ended e c) n y = EndsAs r e c y

-- ---- slots in a row

abbrev pub AreAlike : {S T : Type 0} → (Tree → Bool) → ℕ → List (Slot S T) → core.Slots → Type 0
AreAlike loud r [] no_slot = Unit
AreAlike loud r [] (slot g k y w) = ⊥
AreAlike loud r (x ∷ xs) no_slot = ⊥
AreAlike loud r (x ∷ xs) (slot g k y w) = (x.is_loud ≡ loud g) × StandsAs r x.stand (length (tuples_of x)) y × AreAlike loud r xs w

-- the leftmost slot without an answer isn't a drained one
abbrev pub IsUndrained : core.Slots → Type 0
IsUndrained no_slot = Unit
IsUndrained (slot g k (idle i) w) = Unit
IsUndrained (slot g k (stored m) w) = Unit
IsUndrained (slot g k (busy b t) w) = Unit
IsUndrained (slot g k (held m a t c) w) = IsUndrained w
IsUndrained (slot g k (redone m b t i) w) = Unit
IsUndrained (slot g k (again m a t c) w) = IsUndrained w
IsUndrained (slot g k (drained m b t i d) w) = ⊥

-- it is one: n was charged before it ran on, where the slots left of these have cost so much, and it spent c of what was left of the rest r
abbrev pub IsDrained : ℕ → ℕ → ℕ → ℕ → core.Slots → Type 0
IsDrained n r c before no_slot = ⊥
IsDrained n r c before (slot g k (idle i) w) = ⊥
IsDrained n r c before (slot g k (stored m) w) = ⊥
IsDrained n r c before (slot g k (busy b t) w) = ⊥
IsDrained n r c before (slot g k (held m a t e) w) = IsDrained n r c (before + e) w
IsDrained n r c before (slot g k (redone m b t i) w) = ⊥
IsDrained n r c before (slot g k (again m a t e) w) = IsDrained n r c (before + e) w
IsDrained n r c before (slot g k (drained m b t i d) w) = (before + d ≡ n) × (c ≡ stopped_cost (r - n) i b t)

-- the round stands so beside the core's, whose frame has these slots
abbrev pub IsRound : {S T : Type 0} → Round → ℕ → List (Slot S T) → CoreRound → core.Slots → Type 0
IsRound round.First r xs core_round.First w = IsUndrained w
IsRound (round.Draining n) r xs core_round.First w = IsDrained n r (ended_cost xs) 0 w
IsRound (round.Later j) r xs core_round.Later w = IsUndrained w
IsRound round.Closed r xs core_round.Closed w = Unit
IsRound _ r xs _ w = ⊥

-- ---- stored answers

-- what is stored of each slot is what the core puts away, where a slot to the left is redone
abbrev pub AreStored : {S T : Type 0} → List (Slot S T) → core.Slots → Type 0
AreStored [] no_slot = Unit
AreStored [] (slot g k y w) = ⊥
AreStored (x ∷ xs) no_slot = ⊥
AreStored (x ∷ xs) (slot g k y w) = WaitsAs (length (tuples_of x)) (put_away k y) × AreStored xs w

-- of the slots behind the first i
abbrev pub AreStoredBehind : {S T : Type 0} → ℕ → List (Slot S T) → core.Slots → Type 0
AreStoredBehind zero xs w = AreStored xs w
AreStoredBehind (suc i) [] w = Unit
AreStoredBehind (suc i) (x ∷ xs) no_slot = ⊥
AreStoredBehind (suc i) (x ∷ xs) (slot g k y w) = AreStoredBehind i xs w

-- ---- verdicts

abbrev pub verdict_of : Verdict → conditions.Verdict
verdict_of verdicts.Wait = conditions.wait
verdict_of (verdicts.Joined c) = conditions.joins c
verdict_of (verdicts.Broken c) = conditions.breaks c
verdict_of (verdicts.Drain i x) = conditions.drains i x
verdict_of (verdicts.Raised c e) = conditions.raises c e
verdict_of verdicts.Spent = conditions.spends
