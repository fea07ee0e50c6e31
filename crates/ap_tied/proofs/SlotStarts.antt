-- Slots that begin.
use Rattle.std.proofs.Common.{◌≡◌, ℕ, ◌-◌, ◌<◌, true, false, List, [], ◌∷◌, Some, refl, ap, sym, ◌∙◌, subst}
use Rattle.std.specs.Prelude.{option_and_then}
use Rattle.std.proofs.lemmas.Bool.{false≢true}
use Rattle.std.proofs.lemmas.Option.{same_Some}
use Rattle.ap_term.specs.Tree.{Tree}
use Rattle.ap_term.specs.Substitution.{instance_all}
use Rattle.ap_core.specs.declared.events.Kind.TheVariants as kinds
use Rattle.ap_core.specs.declared.tasks.Idle.{Idle}
use Rattle.ap_core.specs.declared.tasks.Idle.TheVariants as idle_kind
use Rattle.ap_core.specs.declared.tasks.Busy.TheVariants as busy_kind
use Rattle.ap_core.specs.Tasks.{Task, Progress, idle, busy}
use Rattle.ap_core.specs.Conditions.{is_open, has_answer}
use Rattle.ap_core.specs.Relation.{Rules, Recorded, recorded, start_slot, started, mapped}
use Rattle.ap_core.specs.Lifting.{running_of, running_in, at_end}
use Rattle.ap_core.proofs.Lifted.{chosen}
use Rattle.ap_frames.specs.declared.frame.Round.{Round}
use Rattle.ap_frames.specs.declared.frame.Round.TheVariants.{First, Draining, Later, Closed}
use Rattle.ap_frames.specs.declared.slots.Stand.{Stand}
use Rattle.ap_frames.specs.declared.slots.Stand.TheVariants.{Ready, Waiting, Running, Answered, Replayed, Ended, GivenBack}
use Rattle.ap_frames.specs.declared.slots.Run.TheVariants as runs
use Rattle.ap_frames.specs.Slots.{is_startable, stands_startable}
use Rattle.ap_parcall_laws.specs.Alike.{StandsAs}
use Rattle.ap_tracked.specs.Tracked.{Tracked}
use Rattle.ap_tracked.specs.Forks.{alone}
use Rattle.ap_instr.specs.Code.{Compiled}
use Rattle.ap_standing.specs.Machine.{Point, Machine}
use Rattle.ap_group.specs.Groups.{Pushed, Forked}
use Rattle.ap_tie.specs.Sections.{Row, section, Stack, parcall, Slots, nothing, rows}
use Rattle.ap_tie.specs.Settled.{HasFailed}
use Rattle.ap_tie.specs.Slots.{place_in}
use Rattle.ap_tie.specs.Tied.{round_of}
use Rattle.ap_tied.specs.Reaching.{whole}
use Rattle.ap_tied.specs.Ties.{WasRedone, IsSearched, IsTied}
use Rattle.ap_tied.proofs.Common.{open-count}
use Rattle.ap_tied.specs.SlotCalls.{row_in, since_of, stood, RunsSlot, IsGoalAt}
use Rattle.ap_tied.proofs.Places.{nth, get-nth, nth-long, SlotAt, place-row, running-place, origin-place, since-place, set_in, place-set}
use Rattle.ap_tied.proofs.SlotEvents.{FirstFrame, first_failed, found, after, happens, now_tied}
use Rattle.ap_tied.proofs.SlotGoals.{goal_searched, goal_at}

open_round : (rd : Round) → (rd ≡ Closed → ⊥) → is_open (round_of rd) ≡ true
open_round First h = refl
open_round (Draining n) h = refl
open_round (Later i) h = refl
open_round Closed h = absurd (h refl)

-- how a slot stands that can begin
may_start : (r n : ℕ) (e : Stand (Unit {0})) (x : Progress) → stands_startable e ≡ true → StandsAs r e n x → (k : Idle) × (x ≡ idle k) × ((d b : ℕ) (g : Tree) → start_slot d b g (idle k) ≡ Some (started d b g))
may_start r n Ready x h s = (idle_kind.Ready, s, λ d b g. refl)
may_start r n GivenBack x h s = (idle_kind.GivenBack, s, λ d b g. refl)
may_start r n Waiting x h s = absurd (false≢true h)
may_start r n (Running k) x h s = absurd (false≢true h)
may_start r n (Answered a) x h s = absurd (false≢true h)
may_start r n (Replayed k) x h s = absurd (false≢true h)
may_start r n (Ended e c) x h s = absurd (false≢true h)

pub starts : (code : Compiled) (p : Rules) (o : Tracked) (m : Machine) (c b : ℕ) (f : Forked) (q : ℕ) (rd : Round) (w : Slots) (qs : List Point) (st : Stack) (t : Task) (i : ℕ) (x : Row)
    → IsSearched code p o → IsTied code p o (section m c b (parcall f q rd w qs st)) t → HasFailed m.roots [] m → (rd ≡ Closed → ⊥) → 0 < i → row_in i w ≡ Some x → is_startable x ≡ true
    → (u : Task) × (at_end p kinds.Start (i ∷ []) t ≡ Some u) × IsTied code p o (stood i (Running runs.First) nothing (section m c b (parcall f q rd w qs st))) u
    × ((g : Tree) × (n : ℕ) × IsGoalAt code f i g n × IsSearched code p (alone g n) × RunsSlot i u (alone g n) 0 (whole (b - c) (alone g n)))
starts code p o m c b f q rd w qs st t i x searched tied failed not_closed place row startable = (
  after code p o m c b f q rd w qs st t tied first i begun,
  happens code p o m c b f q rd w qs st t tied first is_open_now i at kinds.Start begun (ap (λ y. recorded false (start_slot (b - c) first.forked.next at.goal y)) start.1 ∙ ap (recorded false) (start.2 (b - c) first.forked.next at.goal)),
  now_tied code p o m c b f q rd w qs st t tied first is_open_now i at (Running runs.First) nothing begun (busy_kind.Running, whole (b - c) (alone at.goal first.forked.next), refl, refl) tt refl tt
      (record { redone = λ h. absurd (subst WasRedone start.1 h); answered = λ h. absurd (false≢true (sym (ap has_answer start.1) ∙ h)) }),
  (
    at.goal,
    first.forked.next,
    goal_at code p o m.roots f first.forked first.is_forked first.kept searched i at.goal at.goal_at tied.quiet.0 pushed.0 pushed.1,
    goal_searched code p o m.roots f first.forked first.is_forked first.kept searched i at.goal at.goal_at,
    record {
      runs = chosen (is_open (round_of rd)) (running_in i (set_in i begun first.slots)) is_open_now ∙ running-place i (set_in i begun first.slots) ∙ ap (option_and_then (λ (z : Tree × Recorded). running_of z.1.1)) placed;
      origin = origin-place i first.forked.next (set_in i begun first.slots) ∙ ap (mapped (λ (z : Tree × Recorded). alone z.0 first.forked.next)) placed;
      before = since-place i (set_in i begun first.slots) ∙ ap (option_and_then (λ (z : Tree × Recorded). since_of z.1.1)) placed;
    },
  ),
)
  where
    first : FirstFrame code p o m c b f q rd w qs st t
    first = first_failed code p o m c b f q rd w qs st t tied.holds failed (λ d e. not_closed d)

    is_open_now : is_open (round_of rd) ≡ true
    is_open_now = open_round rd not_closed

    row_at : nth i (rows w) ≡ Some x
    row_at = sym (get-nth i (rows w) place) ∙ row

    at : SlotAt code p q first.forked.next (instance_all first.is_forked.own first.is_forked.goals) w first.slots i
    at = found code p o m c b f q rd w qs st t tied first i (place-row code p q first.forked.next (instance_all first.is_forked.own first.is_forked.goals) w first.slots i x first.hold row_at)

    start : (k : Idle) × (at.progress ≡ idle k) × ((d b : ℕ) (g : Tree) → start_slot d b g (idle k) ≡ Some (started d b g))
    start = may_start q (_) at.row.stand at.progress (ap is_startable (same_Some _ _ (sym at.row_at ∙ row_at)) ∙ startable) at.fits.1

    begun : Progress
    begun = busy busy_kind.Running (whole (b - c) (alone at.goal first.forked.next))

    placed : place_in i (set_in i begun first.slots) ≡ Some (at.goal, (false, begun))
    placed = place-set i first.slots at.goal at.progress begun at.place_at

    pushed : (a : Pushed) × (nth i f.goals ≡ Some a)
    pushed = nth-long i (rows w) f.goals x (open-count rd _ _ not_closed tied.quiet.1) row_at
