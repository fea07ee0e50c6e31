-- What every event of the core keeps of budgets and of how slots stand.
use Rattle.std.proofs.Common.{◌≡◌, ℕ, ◌+◌, ◌-◌, ◌≤◌, Bool, true}
use Rattle.ap_term.specs.Tree.{Tree}
use Rattle.ap_term.specs.Search.{State}
use Rattle.ap_laws.specs.Plain.{HasFullGroups}
use Rattle.ap_laws.specs.Rejoining.{IsSpent, IsRaised}
use Rattle.ap_core.specs.declared.tasks.Round.TheVariants.{First, Later, Closed}
use Rattle.ap_core.specs.declared.tasks.Idle.TheVariants.{Ready, Waiting, GivenBack}
use Rattle.ap_core.specs.declared.tasks.Busy.{Busy}
use Rattle.ap_core.specs.declared.tasks.Busy.TheVariants.{Running, Stopping, Failed, Spent, Stopped, Raised}
use Rattle.ap_core.specs.Tasks.{Task, task, Alternatives, exhausted, alternative, Alternative, state, frame, Slots, no_slot, slot, Progress, idle, stored, busy, held, redone, again, drained}
use Rattle.ap_core.specs.Conditions.{is_exhausted}
use Rattle.ap_core.specs.Erased.{erased}

-- what it has spent and what it may still spend are the budget
abbrev pub IsGiven : ℕ → Task → Type 0
IsGiven b (task r c l) = c + r ≡ b

abbrev pub Stands : ℕ → Busy → Task → Type 0
Stands b Running t = IsGiven b t
Stands b Stopping t = IsGiven b t
Stands b Failed t = is_exhausted t ≡ true
Stands b Spent t = IsSpent b (erased t)
Stands b Stopped t = Unit {0}
Stands b (Raised e) t = IsRaised e (erased t)

-- slots that haven't begun anew
abbrev pub AreWaiting : Slots → Type 0
AreWaiting no_slot = Unit {0}
AreWaiting (slot g k (idle Ready) w) = ⊥
AreWaiting (slot g k (idle Waiting) w) = AreWaiting w
AreWaiting (slot g k (idle GivenBack) w) = ⊥
AreWaiting (slot g k (stored m) w) = AreWaiting w
AreWaiting (slot g k (busy b t) w) = ⊥
AreWaiting (slot g k (held m a t c) w) = ⊥
AreWaiting (slot g k (redone m b t i) w) = ⊥
AreWaiting (slot g k (again m a t c) w) = ⊥
AreWaiting (slot g k (drained m b t i e) w) = ⊥

-- Where slots stand: in a first round behind answers that have cost so much; in one, behind a drained slot; or where no
-- slot is drained, which is behind one that hasn't answered, and in a later round.
pub data Where : Type 0 where
  past : ℕ → Where
  beyond : Where
  undrained : Where

abbrev pub next_to : Where → Progress → Where
next_to undrained x = undrained
next_to beyond x = beyond
next_to (past n) (idle i) = undrained
next_to (past n) (stored m) = undrained
next_to (past n) (busy b t) = undrained
next_to (past n) (held m a t c) = past (n + c)
next_to (past n) (redone m b t i) = undrained
next_to (past n) (again m a t c) = past (n + c)
next_to (past n) (drained m b t i e) = beyond

-- how the task of a drained slot stands
abbrev pub Drains : Where → ℕ → Busy → Task → ℕ → ℕ → Type 0
Drains (past n) r b t i e = (n + e ≤ r) × Stands (i + (r - (n + e))) b t
Drains beyond r b t i e = (n : ℕ) × Stands n b t
Drains undrained r b t i e = ⊥

module _ (loud : Tree → Bool) where
  abbrev mutual
    pub Fine : Task → Type 0
    Fine (task r c l) = FineFirst r l

    pub FineFirst : ℕ → Alternatives → Type 0
    FineFirst r exhausted = Unit {0}
    FineFirst r (alternative a l) = FineAlternative r a × FineBehind l

    -- all but the first alternative: their frames are closed
    pub FineBehind : Alternatives → Type 0
    FineBehind exhausted = Unit {0}
    FineBehind (alternative a l) = FineClosed a × FineBehind l

    pub FineAlternative : ℕ → Alternative → Type 0
    FineAlternative r (state s) = HasFullGroups s
    FineAlternative r (frame s First w) = HasFullGroups s × FineOpen (past 0) r w
    FineAlternative r (frame s Later w) = HasFullGroups s × FineLater r w
    FineAlternative r (frame s Closed w) = HasFullGroups s × FineShut w

    pub FineClosed : Alternative → Type 0
    FineClosed (state s) = HasFullGroups s
    FineClosed (frame s First w) = ⊥
    FineClosed (frame s Later w) = ⊥
    FineClosed (frame s Closed w) = HasFullGroups s × FineShut w

    pub FineHeldTask : Task → Type 0
    FineHeldTask (task r c l) = FineBehind l

    -- slots of a first round, and those right of a redone one that has answered
    pub FineOpen : Where → ℕ → Slots → Type 0
    FineOpen z r no_slot = Unit {0}
    FineOpen z r (slot g k x w) = FineBegun z r g x × FineOpen (next_to z x) r w

    pub FineBegun : Where → ℕ → Tree → Progress → Type 0
    FineBegun z r g (idle i) = Unit {0}
    FineBegun z r g (stored m) = Unit {0}
    FineBegun z r g (busy b t) = Stands r b t × Fine t
    FineBegun z r g (held m a t c) = FineHeldTask t
    FineBegun z r g (redone m b t i) = ⊥
    FineBegun z r g (again m a t c) = ⊥
    FineBegun z r g (drained m b t i e) = Drains z r b t i e × Fine t × (loud g ≡ true)

    -- slots of a later round
    pub FineLater : ℕ → Slots → Type 0
    FineLater r no_slot = ⊥
    FineLater r (slot g k x w) = FinePivot r x w (FineLater r w) (FineOpen undrained r w)

    pub FinePivot : ℕ → Progress → Slots → Type 0 → Type 0 → Type 0
    FinePivot r (idle i) w P Q = ⊥
    FinePivot r (stored m) w P Q = ⊥
    FinePivot r (busy b t) w P Q = ⊥
    FinePivot r (held m a t c) w P Q = FineHeldTask t × P
    FinePivot r (redone m b t i) w P Q = Stands (i + r) b t × Fine t × AreWaiting w
    FinePivot r (again m a t c) w P Q = FineHeldTask t × Q
    FinePivot r (drained m b t i e) w P Q = ⊥

    -- slots of a closed frame
    pub FineShut : Slots → Type 0
    FineShut no_slot = Unit {0}
    FineShut (slot g k x w) = FineHeld x × FineShut w

    pub FineHeld : Progress → Type 0
    FineHeld (idle i) = Unit {0}
    FineHeld (stored m) = Unit {0}
    FineHeld (busy b t) = Unit {0}
    FineHeld (held m a t c) = FineHeldTask t
    FineHeld (redone m b t i) = Unit {0}
    FineHeld (again m a t c) = FineHeldTask t
    FineHeld (drained m b t i e) = Unit {0}
