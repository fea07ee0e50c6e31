-- What a section is when a slot of the closed frame that comes first runs on.
use Rattle.std.specs.Prelude.{◌≡◌, ℕ, zero, suc, ◌-◌, List, [], ◌∷◌, Some, None}
use Rattle.ap_core.specs.declared.events.Kind.TheVariants.{Redo}
use Rattle.ap_core.specs.Tasks.{Task}
use Rattle.ap_core.specs.Relation.{Rules, own}
use Rattle.ap_frames.specs.declared.frame.Round.TheVariants.{Later, Closed}
use Rattle.ap_frames.specs.Rows.{Row as Frame}
use Rattle.ap_frames.specs.Rounds.{resumed}
use Rattle.ap_frames.specs.Verdicts.{next_redo}
use Rattle.ap_term.specs.Tree.{Trees}
use Rattle.ap_tracked.specs.Tracked.{Tracked}
use Rattle.ap_instr.specs.Code.{Compiled}
use Rattle.ap_standing.specs.Machine.{Point, Machine}
use Rattle.ap_group.specs.Groups.{Forked}
use Rattle.ap_tie.specs.Sections.{Row, section, Stack, parcall, Slots, no_slot, slot, nothing, rows}
use Rattle.ap_tie.specs.Settled.{HasFailed}
use Rattle.ap_tie.specs.Tied.{HoldsTask}

-- other slots, of which the first n hold what these hold, and those behind them nothing
abbrev pub keeping : ℕ → List Row → Slots → Slots
keeping n [] w = no_slot
keeping n (x ∷ xs) no_slot = no_slot
keeping zero (x ∷ xs) (slot y h w) = slot x nothing (keeping zero xs w)
keeping (suc n) (x ∷ xs) (slot y h w) = slot x h (keeping n xs w)

-- a closed frame with the slots
abbrev pub closed_row : ℕ → Slots → Frame (Unit {0}) Trees
closed_row q w = record { rest = q; round = Closed; mark = None; slots = rows w }

-- slot i runs on with the rest r; those left of it hold what they held
abbrev pub taken : ℕ → ℕ → ℕ → Slots → Slots
taken i r q w = keeping (i - 1) (resumed i r (closed_row q w)).slots w

-- Where nothing but the closed frame is left to do and slot i of it has more, the core redoes that slot, and the section
-- whose slot runs on stands for what the core's redo leaves.
abbrev pub RedoLaw : Type 0
RedoLaw =
    (code : Compiled) (p : Rules) (o : Tracked) (m : Machine) (c b : ℕ) (f : Forked) (q : ℕ) (w : Slots) (qs : List Point) (st : Stack) (t : Task) (i : ℕ)
    → HasFailed m.roots [] m → HoldsTask code p o (section m c b (parcall f q Closed w qs st)) t → next_redo (rows w) ≡ Some i
    → (u : Task) × (own p Redo t ≡ Some u) × HoldsTask code p o (section m c b (parcall f (b - c) (Later i) (taken i (b - c) q w) qs st)) u
