-- Verdicts on the frame that comes first are the core's.
use Rattle.std.proofs.Common.{◌≡◌, ℕ, ◌+◌, ◌-◌, inl, inr, Bool, true, false, ◌||◌, not, is_some, List, [], ◌∷◌, Some, refl, ap, ap₂, sym, ◌∙◌, subst, arith}
use Rattle.std.specs.List.{AllZip, list_any}
use Rattle.ap_term.specs.Tree.{Tree, Trees}
use Rattle.ap_term.specs.Search.{State}
use Rattle.ap_term.specs.Substitution.{instance_all}
use Rattle.ap_term.proofs.Lists.{not_nil}
use Rattle.ap_core.specs.declared.events.Kind.TheVariants.{Join, Break}
use Rattle.ap_core.specs.declared.tasks.Round.TheVariants as core_round
use Rattle.ap_core.specs.Tasks as core
use Rattle.ap_core.specs.Tasks.{Answer, Task, task, Alternatives, alternative, Alternative, state, frame, Progress, busy, held, redone, again, drained}
use Rattle.ap_core.specs.Conditions as conditions
use Rattle.ap_core.specs.Conditions.{spent_by, some_runs, some_has_more, may_go_on}
use Rattle.ap_core.specs.Relation.{Rules, own, joined_by, broken_by, is_over, has_spent, after_failure, with_answers, only_if}
use Rattle.ap_frames.specs.declared.slots.Stand.{Stand}
use Rattle.ap_frames.specs.declared.slots.Stand.TheVariants.{Ready, Waiting, Running, Answered, Replayed, Ended, GivenBack}
use Rattle.ap_frames.specs.declared.slots.Run.TheVariants.{First, Redone, Drained}
use Rattle.ap_frames.specs.declared.slots.Ending.{Ending}
use Rattle.ap_frames.specs.declared.slots.Ending.TheVariants as ending
use Rattle.ap_frames.specs.declared.frame.Round.{Round}
use Rattle.ap_frames.specs.declared.frame.Round.TheVariants as round
use Rattle.ap_frames.specs.declared.verdict.Verdict.{Verdict}
use Rattle.ap_frames.specs.declared.verdict.Verdict.TheVariants.{Wait, Joined, Broken, Spent}
use Rattle.ap_frames.specs.Slots.{is_running, stands_running}
use Rattle.ap_frames.specs.Verdicts.{judged, next_redo}
use Rattle.ap_parcall_laws.specs.Alike.{busy_of, AreAlike, StandsAs, HasAnswer, verdict_of}
use Rattle.ap_parcall_laws.proofs.Judged.{judgements}
use Rattle.ap_tracked.specs.Tracked.{Tracked, untracked}
use Rattle.ap_instr.specs.Code.{Compiled}
use Rattle.ap_standing.specs.Machine.{Point, Machine}
use Rattle.ap_standing.specs.Holds.{HoldsPoints}
use Rattle.ap_standing.proofs.Machines.{failed-points}
use Rattle.ap_group.specs.Groups.{Forked}
use Rattle.ap_tie.specs.Sections.{Row, section, Stack, parcall, Slots, rows}
use Rattle.ap_tie.specs.Shows.{Shows, before}
use Rattle.ap_tie.specs.Slots.{rest_of}
use Rattle.ap_tie.specs.Settled.{HasFailed}
use Rattle.ap_tie.specs.Tied.{round_of, IsRest, HoldsTask}
use Rattle.ap_tie.specs.Judged.{StandsRound, Happens, VerdictLaw}
use Rattle.ap_tie.proofs.Answered.{alike}
use Rattle.ap_tie.proofs.Cleared.{judged-round, open-stands, more-left}

-- ---- slots that run

ended : (e : Ending) → conditions.is_running (busy_of e) ≡ false
ended ending.Failed = refl
ended ending.Spent = refl
ended ending.Stopped = refl
ended (ending.Raised f) = refl

answer_rests : (t : Task) (c : ℕ) (y : Progress) → HasAnswer t c y → may_go_on y ≡ false
answer_rests t c y (m, a, inl e) = ap may_go_on e
answer_rests t c y (m, a, inr e) = ap may_go_on e

runs_as : {S : Type 0} (r n : ℕ) (s : Stand S) (y : Progress) → StandsAs r s n y → may_go_on y ≡ stands_running s
runs_as r n Ready y h = ap may_go_on h
runs_as r n Waiting y (inl h) = ap may_go_on h.0
runs_as r n Waiting y (inr (a, rest, h, l)) = ap may_go_on h
runs_as r n GivenBack y h = ap may_go_on h
runs_as r n (Running First) y (b, t, e, k) = ap may_go_on e ∙ k
runs_as r n (Running Redone) y (m, b, t, i, e, k) = ap may_go_on e ∙ k
runs_as r n (Running Drained) y (m, b, t, i, d, e, k) = ap may_go_on e ∙ k
runs_as r n (Answered a) y (t, k, l) = answer_rests t a.cost y k
runs_as r n (Replayed j) y (q, c, rest, k, l) = answer_rests _ 0 y k
runs_as r n (Ended e c) y (inl (t, k, l)) = ap may_go_on k ∙ ended e
runs_as r n (Ended e c) y (inr (inl (m, t, i, k, l))) = ap may_go_on k ∙ ended e
runs_as r n (Ended e c) y (inr (inr (m, t, i, d, k))) = ap may_go_on k ∙ ended e

runs_alike : (loud : Tree → Bool) (r : ℕ) (xs : List Row) (v : core.Slots) → AreAlike loud r xs v → some_runs v ≡ list_any is_running xs
runs_alike loud r [] core.no_slot h = refl
runs_alike loud r [] (core.slot g k y w) h = absurd h
runs_alike loud r (x ∷ xs) core.no_slot h = absurd h
runs_alike loud r (x ∷ xs) (core.slot g k y w) (l, s, h) = ap₂ (λ i j. i || j) (runs_as r (_) x.stand y s) (runs_alike loud r xs w h)

-- ---- the frame that comes first

-- what a section with nothing else to do says of the task
record FrameFirst (p : Rules) (r c q : ℕ) (rd : Round) (xs : List Row) (t : Task) : Type 0 where
  at : State
  slots : core.Slots
  older : Alternatives
  same : t ≡ task r c (alternative (frame at (round_of rd) slots) older)
  are_alike : (judged q rd xs ≡ Wait → ⊥) → AreAlike p.loud q xs slots
  more_left : some_has_more slots ≡ is_some (next_redo xs)
  rest : IsRest rd q r

find_first : (code : Compiled) (p : Rules) (o : Tracked) (m : Machine) (c b : ℕ) (f : Forked) (q : ℕ) (rd : Round) (w : Slots) (qs : List Point) (st : Stack) (t : Task)
    → HasFailed m.roots [] m → HoldsTask code p o (section m c b (parcall f q rd w qs st)) t → FrameFirst p (b - c) c q rd (rows w) t
find_first code p o m c b f q rd w qs st t fails (ss, xs, l, holds, shown, (s, i, v, sv, ys, k, kept, rest, shut, slots, points, shows, older, z), is) =
    go ss xs (subst (λ ps. HoldsPoints code m.roots ps ss) fails.points (failed-points code m fails.now ss holds)) shown is
  where
    go : (ss : List Tracked) (xs : _) → ss ≡ [] → AllZip (Shows p.program o) ss xs → t ≡ task (b - c) c (before xs l) → FrameFirst p (b - c) c q rd (rows w) t
    go [] [] n h is = record {
      at = untracked s;
      slots = v;
      older = before ys k;
      same = is ∙ ap (task (b - c) c) z;
      are_alike = λ n. alike code p q s.next (instance_all i.own i.goals) w v (open-stands rd w v _ (judged-round q rd (rows w) n) slots);
      more_left = more-left code p q s.next (instance_all i.own i.goals) rd w v slots;
      rest = rest;
    }
    go [] (y ∷ ys) n h is = absurd h
    go (s ∷ ss) xs n h is = absurd (not_nil n)

-- a round with a verdict is open, and was begun with what is left
begun_with : (rd : Round) (q r : ℕ) (xs : List Row) → (judged q rd xs ≡ Wait → ⊥) → IsRest rd q r → q ≡ r
begun_with round.First q r xs n h = h
begun_with (round.Draining e) q r xs n h = h
begun_with (round.Later j) q r xs n h = h
begun_with round.Closed q r xs n h = absurd (n refl)

verdict_same : (p : Rules) (r c q : ℕ) (rd : Round) (xs : List Row) (t : Task) (x : Verdict) (f : FrameFirst p r c q rd xs t) → (x ≡ Wait → ⊥) → StandsRound rd xs t → judged q rd xs ≡ x
    → conditions.verdict p.loud (round_of rd) r f.slots ≡ verdict_of x
verdict_same p r c q rd xs t x f n h e =
    let waits : judged q rd xs ≡ Wait → ⊥ = λ j. n (sym e ∙ j) in
    let same_rest : q ≡ r = begun_with rd q r xs waits f.rest in
    (judgements (Unit {0}) Trees).verdict p.loud r rd (round_of rd) xs f.slots (subst (λ j. AreAlike p.loud j xs f.slots) same_rest (f.are_alike waits)) (subst (StandsRound rd xs) f.same h)
    ∙ ap verdict_of (sym (ap (λ j. judged j rd xs) same_rest) ∙ e)

joined_waits : (e : ℕ) → Joined e ≡ Wait → ⊥
joined_waits e h = absurd (cc)

broken_waits : (e : ℕ) → Broken e ≡ Wait → ⊥
broken_waits e h = absurd (cc)

spent_waits : Spent ≡ Wait → ⊥
spent_waits h = absurd (cc)

-- a task with counts that are told
happens : (p : Rules) (k : _) (t : Task) (r c e : ℕ) (a l : Alternatives) → t ≡ task r c a → own p k (task r c a) ≡ Some (task (r - e) (c + e) l) → Happens p k e t
happens p k t r c e a l is h = (task (r - e) (c + e) l, ap (own p k) is ∙ h, ap (λ n. n + e) (sym (ap spent_by is)), ap (λ n. n - e) (sym (ap rest_of is)))

-- an open round
opened : (rd : Round) (q r c : ℕ) (p : Rules) (xs : List Row) (s : State) (v : core.Slots) (l : Alternatives) → (judged q rd xs ≡ Wait → ⊥)
    → own p Break (task r c (alternative (frame s (round_of rd) v) l)) ≡ broken_by (conditions.verdict p.loud (round_of rd) r v) r c (round_of rd) s v l
opened round.First q r c p xs s v l n = refl
opened (round.Draining e) q r c p xs s v l n = refl
opened (round.Later j) q r c p xs s v l n = refl
opened round.Closed q r c p xs s v l n = absurd (n refl)

over : (rd : Round) (q r c : ℕ) (p : Rules) (s : State) (v : core.Slots) (l : Alternatives) → conditions.verdict p.loud (round_of rd) r v ≡ conditions.spends → has_spent p.loud (task r c (alternative (frame s (round_of rd) v) l)) ≡ true
over rd q r c p s v l e = ap is_over e

pub judging : VerdictLaw
judging = record {
  joins = λ code p o m c b f q rd w qs st t e fails stands h j.
      let a = find_first code p o m c b f q rd w qs st t fails h in
      happens p Join t (b - c) c e _ (alternative (state (with_answers a.slots a.at.next a.at)) (alternative (frame a.at core_round.Closed a.slots) a.older)) a.same
      (ap (λ x. joined_by x (b - c) c a.at a.slots a.older) (verdict_same p (b - c) c q rd (rows w) t (Joined e) a (joined_waits e) stands j));
  breaks = λ code p o m c b f q rd w qs st t e fails stands h j none.
      let a = find_first code p o m c b f q rd w qs st t fails h in
      let waits : judged q rd (rows w) ≡ Wait → ⊥ = λ k. broken_waits e (sym j ∙ k) in
      let rests : not (some_runs a.slots) ≡ true = ap not (runs_alike p.loud q (rows w) a.slots (a.are_alike waits) ∙ none) in
      happens p Break t (b - c) c e _ (after_failure (round_of rd) a.at a.slots a.older) a.same
      (opened rd q (b - c) c p (rows w) a.at a.slots a.older waits
      ∙ ap (λ x. broken_by x (b - c) c (round_of rd) a.at a.slots a.older) (verdict_same p (b - c) c q rd (rows w) t (Broken e) a (broken_waits e) stands j)
      ∙ ap (λ x. only_if x (task ((b - c) - e) (c + e) (after_failure (round_of rd) a.at a.slots a.older))) rests);
  spends = λ code p o m c b f q rd w qs st t fails stands h j.
      let a = find_first code p o m c b f q rd w qs st t fails h in
      ap (has_spent p.loud) a.same ∙ over rd q (b - c) c p a.at a.slots a.older (verdict_same p (b - c) c q rd (rows w) t Spent a spent_waits stands j);
  drops = λ code p o m c b f q w qs st t fails h none.
      let a = find_first code p o m c b f q round.Closed w qs st t fails h in
      let no_more : not (some_has_more a.slots) ≡ true = ap not (a.more_left ∙ ap is_some none) in
      let left : (b - c) - 0 ≡ b - c = omega arith in
      let spent : c + 0 ≡ c = omega arith in
      happens p Break t (b - c) c 0 _ a.older a.same (ap (λ x. only_if x (task (b - c) c a.older)) no_more ∙ sym (ap₂ (λ i j. Some (task i j a.older)) left spent));
}
