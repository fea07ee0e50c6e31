-- Where there is no group, a query's search has one section, and that one has no frame.
use Rattle.std.proofs.Common.{◌≡◌, ℕ, List, [], ◌∷◌, Option, Some, None, refl, ap, sym, ◌∙◌, subst}
use Rattle.ap_term.specs.Tree.{Trees}
use Rattle.ap_term.specs.Goals.{Query}
use Rattle.ap_term.specs.Search.{State, start}
use Rattle.ap_core.specs.declared.tasks.Round.{Round as CoreRound}
use Rattle.ap_core.specs.Lifting.{running_task}
use Rattle.ap_core.specs.Tasks as core
use Rattle.ap_core.specs.Tasks.{Task, task, Alternatives, exhausted, alternative, Alternative, state, frame}
use Rattle.ap_core.specs.Relation.{Rules, states}
use Rattle.ap_graft.specs.Starts.{tracked_start}
use Rattle.ap_instr.specs.Code.{Compiled}
use Rattle.ap_tracked.specs.Tracked.{Tracked}
use Rattle.ap_tie.specs.Sections.{Section, section, bottom, parcall}
use Rattle.ap_tie.specs.Shows.{before}
use Rattle.ap_tie.specs.Tied.{HoldsTask}
use Rattle.ap_tied.specs.Ties.{stack_in}
use Rattle.ap_open.specs.Away.{Away, Level, OpenBeside, IsSolvingBeside}
use Rattle.ap_open.specs.Ungrouped.{AreCalls, IsUngrouped}
use Rattle.ap_open.proofs.Ungrouped.{only_states}

-- ---- alternatives

same_alternatives : {r c u d : ℕ} {l m : Alternatives} → task r c l ≡ task u d m → l ≡ m
same_alternatives e = cc

same_behind : {x y : Alternative} {l m : Alternatives} → alternative x l ≡ alternative y m → l ≡ m
same_behind e = cc

none_left : {x : Alternative} {l : Alternatives} → alternative x l ≡ exhausted → ⊥
none_left e = cc

frame_state : {s t : State} {rd : CoreRound} {w : core.Slots} {l m : Alternatives} → alternative (frame s rd w) l ≡ alternative (state t) m → ⊥
frame_state e = cc

-- no frame stands among states
no_frame : (xs : List Alternative) (s : State) (rd : CoreRound) (w : core.Slots) (k : Alternatives) (left : List State) → before xs (alternative (frame s rd w) k) ≡ states left exhausted → ⊥
no_frame [] s rd w k [] e = none_left e
no_frame [] s rd w k (t ∷ left) e = frame_state e
no_frame (x ∷ xs) s rd w k [] e = none_left e
no_frame (x ∷ xs) s rd w k (t ∷ left) e = no_frame xs s rd w k left (same_behind e)

-- no slot runs there
no_slot_runs : (i r c : ℕ) (left : List State) (z : Task) → running_task i (task r c (states left exhausted)) ≡ Some z → ⊥
no_slot_runs i r c [] z e = cc
no_slot_runs i r c (s ∷ left) z e = cc

-- ---- sections

module _ (code : Compiled) (p : Rules) (o : Tracked) (t : Task) (r c : ℕ) (left : List State) (is : t ≡ task r c (states left exhausted)) where
  frameless : (s : Section) → HoldsTask code p o s t → stack_in s ≡ bottom
  frameless (section m d b bottom) h = refl
  frameless (section m d b (parcall f q rd w qs st)) h =
      let all : before h.1 h.2 ≡ states left exhausted = same_alternatives (sym h.6 ∙ is) in
      absurd (no_frame h.1 _ _ h.5.2 _ left (ap (before h.1) (sym h.5.13) ∙ all))

  one_section : (levels : List Level) (s : Section) (aways : List Away) → OpenBeside code p o levels s aways t → (levels ≡ []) × (stack_in s ≡ bottom)
  one_section [] s aways h = (refl, frameless s h.1.holds)
  one_section (a ∷ levels) s aways h = absurd (no_slot_runs a.place r c left h.6 (subst (λ u. running_task a.place u ≡ Some h.6) is h.7.runs))

pub unforked : (code : Compiled) (p : Rules) (q : Query) (budget : ℕ) (levels : List Level) (s : Section) (aways : List Away) (given : List Trees) → IsUngrouped p.program → AreCalls q.question.body
    → IsSolvingBeside code p (tracked_start q) (start q) budget levels s aways given → (levels ≡ []) × (stack_in s ≡ bottom)
unforked code p q budget levels s aways given plain calls h =
    let root = only_states p (start q) plain calls budget h.events h.core h.led in
    one_section code p (tracked_start q) h.core.root root.0 root.1 root.2 root.3 levels s aways h.opened
