-- Joins and breaks of the frame that comes first are events of the core.
use Rattle.std.proofs.Common.{◌≡◌, ℕ, suc, ◌+◌, ◌-◌, inl, Bool, true, false, not, if◌then◌else◌, List, [], ◌∷◌, Some, refl, ap, sym, ◌∙◌, subst}
use Rattle.std.specs.Prelude.{length}
use Rattle.std.specs.List.{list_any}
use Rattle.ap_group.specs.Meets.{MeetAll}
use Rattle.ap_term.proofs.UpToNames.{instance-same}
use Rattle.ap_term.specs.Tree.{Tree, Trees, none, more}
use Rattle.ap_term.specs.Search.{State}
use Rattle.ap_term.specs.UpToNames.{SameUpToNames}
use Rattle.ap_term.proofs.Zips.{AllByRecursion-weaken}
use Rattle.ap_cells.specs.declared.cells.Raw.{Raw}
use Rattle.ap_core.specs.declared.tasks.Round.{Round as CoreRound}
use Rattle.ap_core.specs.declared.tasks.Round.TheVariants as core_round
use Rattle.ap_core.specs.declared.events.Kind.TheVariants.{Join, Break}
use Rattle.ap_core.specs.Tasks as core
use Rattle.ap_core.specs.Tasks.{Task, task, Alternatives, exhausted, alternative, state, frame}
use Rattle.ap_core.specs.Conditions.{spent_by, some_has_more, some_runs, is_open, Verdict, wait, joins, breaks, drains, raises, spends, verdict}
use Rattle.ap_core.specs.Relation.{Rules, own, with_answers, joined_by, broken_by, after_failure, only_if}
use Rattle.ap_core.proofs.Options.{Some-only_if}
use Rattle.ap_frames.specs.declared.frame.Round.{Round}
use Rattle.ap_frames.specs.declared.frame.Round.TheVariants.{Closed}
use Rattle.ap_frames.specs.declared.verdict.Verdict.TheVariants.{Wait, Joined, Broken}
use Rattle.ap_frames.specs.Slots.{is_running}
use Rattle.ap_frames.specs.Verdicts.{judged}
use Rattle.ap_tracked.specs.Tracked.{Tracked}
use Rattle.ap_instr.specs.Code.{Compiled}
use Rattle.ap_match.specs.Fits.{Fits, Becomes}
use Rattle.ap_standing.specs.Machine.{Point, Machine}
use Rattle.ap_standing.specs.Holds.{Holds}
use Rattle.ap_group.specs.Groups.{Pushed, Forked}
use Rattle.ap_tie.specs.Sections.{Row, Slots, no_slot, slot, nothing, held, section, Stack, parcall, machine_in, rows}
use Rattle.ap_tie.specs.Tied.{IsAtAnswer, UnlessCleared, HoldsTask, HoldsSlots}
use Rattle.ap_tie.specs.Settled.{AllHeld, AreHeld, AreClosed, IsJoined, HasCounts, stays, HasFailed}
use Rattle.ap_tie.specs.Slots.{rest_of}
use Rattle.ap_tie.specs.Shows.{before}
use Rattle.ap_tie.specs.Judged.{StandsRound, Happens}
use Rattle.ap_tie.proofs.Cleared.{slot-stands}
use Rattle.ap_tie.specs.Rejoined.{MeetAnswers, IsKnown, IsPushed, HasRejoined}
use Rattle.ap_tie.proofs.Settled.{join, breaks_of}
use Rattle.ap_tie.proofs.Judged.{judging}
use Rattle.ap_tie.proofs.Rejoined.{rejoins}
use Rattle.ap_tied.specs.Ties.{IsSimple, AreSimple, SlotsAreSimple, IsKnownGoal, IsQuietStack, IsSearched, IsTied}
use Rattle.ap_tied.specs.Settling.{AreAnswersOf, IsRedoable, HasMet, SettlingLaw}
use Rattle.ap_tied.proofs.Common.{closed_in_order, closed_in_round, open-count, closed-count}
use Rattle.ap_tied.proofs.Emptied.{empties, clears}
use Rattle.ap_tied.proofs.Framed.{one-event, counted, stands-round, stores-behind, may-shut}

-- ---- tuples and answers

-- the sections that slots hold stand at answers
abbrev AllAtAnswer : Slots → Type 0
AllAtAnswer no_slot = Unit {0}
AllAtAnswer (slot x nothing w) = AllAtAnswer w
AllAtAnswer (slot x (held a) w) = IsAtAnswer (machine_in a) × AllAtAnswer w

all-at-answer : (code : Compiled) (p : Rules) (q n : ℕ) (gs : Trees) (w : Slots) (v : core.Slots) → HoldsSlots code p q n gs w v → AllAtAnswer w
all-at-answer code p q n none no_slot v h = tt
all-at-answer code p q n none (slot x d w) v h = absurd h
all-at-answer code p q n (more g gs) no_slot v h = absurd h
all-at-answer code p q n (more g gs) (slot x nothing w) v (k, y, u, here, rest, whole) = all-at-answer code p q n gs w u rest
all-at-answer code p q n (more g gs) (slot x (held a) w) v (k, y, u, (loud, stands, source), rest, whole) = (source.0, all-at-answer code p q n gs w u rest)

all-standing : (code : Compiled) (p : Rules) (q n : ℕ) (gs : Trees) (rd : Round) (w : Slots) (v : core.Slots) → UnlessCleared rd w v (HoldsSlots code p q n gs w v) → AllAtAnswer w
all-standing code p q n gs rd no_slot v h = tt
all-standing code p q n gs rd (slot x d w) v h = all-at-answer code p q n gs (slot x d w) v (slot-stands rd x d w v _ h)

all-held : (w : Slots) (ts : List Trees) → AreAnswersOf w ts → AllHeld w
all-held no_slot ts h = tt
all-held (slot x nothing w) ts h = absurd h
all-held (slot x (held a) w) [] h = absurd h
all-held (slot x (held a) w) (t ∷ ts) h = all-held w ts h.1

held-length : (code : Compiled) (w : Slots) (us : List Tracked) → AreHeld code w us → length (rows w) ≡ length us
held-length code no_slot [] h = refl
held-length code no_slot (u ∷ us) h = absurd h
held-length code (slot x nothing w) us h = absurd h
held-length code (slot x (held a) w) [] h = absurd h
held-length code (slot x (held a) w) (u ∷ us) h = ap suc (held-length code w us h.1)

-- tuples that are those of the answers up to names
abbrev AreTuplesOf : List Trees → List Tracked → Type 0
AreTuplesOf [] [] = Unit {0}
AreTuplesOf (t ∷ ts) (u ∷ us) = SameUpToNames t u.tuple × AreTuplesOf ts us
AreTuplesOf _ _ = ⊥

tuples-of : (code : Compiled) (w : Slots) (ts : List Trees) (us : List Tracked) → AllAtAnswer w → AreAnswersOf w ts → AreHeld code w us → AreTuplesOf ts us
tuples-of code no_slot [] [] at h k = tt
tuples-of code no_slot [] (u ∷ us) at h k = absurd k
tuples-of code no_slot (t ∷ ts) us at h k = absurd h
tuples-of code (slot x nothing w) ts us at h k = absurd h
tuples-of code (slot x (held a) w) [] us at h k = absurd h
tuples-of code (slot x (held a) w) (t ∷ ts) [] at h k = absurd k
tuples-of code (slot x (held a) w) (t ∷ ts) (u ∷ us) at h k = (h.0 at.0 code u k.0.0 k.0.1, tuples-of code w ts us at.1 h.1 k.1)

-- such tuples meet a group's goals under the same maps
meet-answers : (k : ℕ → Tree) (ps : List Pushed) (ts : List Trees) (us : List Tracked) → AreTuplesOf ts us → MeetAll ps ts k → MeetAnswers k ps us
meet-answers k [] [] [] a m = tt
meet-answers k [] [] (u ∷ us) a m = absurd a
meet-answers k [] (t ∷ ts) us a m = absurd m
meet-answers k (p ∷ ps) [] us a m = absurd m
meet-answers k (p ∷ ps) (t ∷ ts) [] a m = absurd a
meet-answers k (p ∷ ps) (t ∷ ts) (u ∷ us) a m =
    let g = instance-same u.tuple t (sym a.0) m.0.0 in
    ((g.0, m.0.1 ∙ sym g.1), meet-answers k ps ts us a.1 m.1)

meet-tuples : (k : ℕ → Tree) (ps : List Pushed) (ts : List Trees) (us : List Tracked) → AreTuplesOf ts us → MeetAnswers k ps us → MeetAll ps ts k
meet-tuples k [] [] us a m = tt
meet-tuples k [] (t ∷ ts) [] a m = absurd a
meet-tuples k [] (t ∷ ts) (u ∷ us) a m = absurd m
meet-tuples k (p ∷ ps) ts [] a m = absurd m
meet-tuples k (p ∷ ps) [] (u ∷ us) a m = absurd a
meet-tuples k (p ∷ ps) (t ∷ ts) (u ∷ us) a m =
    let g = instance-same t u.tuple a.0 m.0.0 in
    ((g.0, m.0.1 ∙ sym g.1), meet-tuples k ps ts us a.1 m.1)

-- what is asked of maps may be said otherwise
asked-same : (old new : List Raw) (A B M : (ℕ → Tree) → Type 0) → ((k : ℕ → Tree) → A k → B k) → ((k : ℕ → Tree) → B k → A k) → Becomes old new A M → Becomes old new B M
asked-same old new A B M to from h = record {
  longer = h.longer;
  only = λ k z. let d = h.only k z in (d.0, to k d.1, d.2);
  each = λ k z a. h.each k z (from k a);
}

-- ---- no answers are kept

join-simple : (x : Verdict) (r c : ℕ) (s : State) (v : core.Slots) (l : Alternatives) (u : Task) → SlotsAreSimple v → AreSimple l → joined_by x r c s v l ≡ Some u → IsSimple u
join-simple wait r c s v l u h k e = absurd (cc)
join-simple (joins n) r c s v l u h k e = let d : task (r - n) (c + n) (alternative (state (with_answers v s.next s)) (alternative (frame s core_round.Closed v) l)) ≡ u = cc in subst IsSimple d (tt, (h, k))
join-simple (breaks n) r c s v l u h k e = absurd (cc)
join-simple (drains i n) r c s v l u h k e = absurd (cc)
join-simple (raises n f) r c s v l u h k e = absurd (cc)
join-simple spends r c s v l u h k e = absurd (cc)

joined-simple : (p : Rules) (t u : Task) → IsSimple t → own p Join t ≡ Some u → IsSimple u
joined-simple p (task r c exhausted) u h e = absurd (cc)
joined-simple p (task r c (alternative (state s) l)) u h e = absurd (cc)
joined-simple p (task r c (alternative (frame s rd v) l)) u h e = join-simple (verdict p.loud rd r v) r c s v l u h.0 h.1 e

left-simple : (rd : CoreRound) (s : State) (v : core.Slots) (l : Alternatives) → SlotsAreSimple v → AreSimple l → AreSimple (after_failure rd s v l)
left-simple core_round.First s v l h k = k
left-simple core_round.Later s v l h k = go (some_has_more v)
  where
    go : (b : Bool) → AreSimple (if b then alternative (frame s core_round.Closed v) l else l)
    go true = (h, k)
    go false = k
left-simple core_round.Closed s v l h k = k

break-simple : (x : Verdict) (r c : ℕ) (rd : CoreRound) (s : State) (v : core.Slots) (l : Alternatives) (u : Task) → SlotsAreSimple v → AreSimple l → broken_by x r c rd s v l ≡ Some u → IsSimple u
break-simple wait r c rd s v l u h k e = absurd (cc)
break-simple (joins n) r c rd s v l u h k e = absurd (cc)
break-simple (breaks n) r c rd s v l u h k e = subst IsSimple (Some-only_if (not (some_runs v)) (task (r - n) (c + n) (after_failure rd s v l)) u e).1 (left-simple rd s v l h k)
break-simple (drains i n) r c rd s v l u h k e = absurd (cc)
break-simple (raises n f) r c rd s v l u h k e = absurd (cc)
break-simple spends r c rd s v l u h k e = absurd (cc)

pub broken-simple : (p : Rules) (t u : Task) → IsSimple t → own p Break t ≡ Some u → IsSimple u
broken-simple p (task r c exhausted) u h e = absurd (cc)
broken-simple p (task r c (alternative (state s) l)) u h e = absurd (cc)
broken-simple p (task r c (alternative (frame s rd v) l)) u h e = go (is_open rd) e
  where
    go : (b : Bool) → (if b then broken_by (verdict p.loud rd r v) r c rd s v l else only_if (not (some_has_more v)) (task r c l)) ≡ Some u → IsSimple u
    go true d = break-simple (verdict p.loud rd r v) r c rd s v l u h.0 h.1 d
    go false d = subst IsSimple (Some-only_if (not (some_has_more v)) (task r c l) u d).1 h.1

-- ---- a frame that comes first

-- a round that is joined isn't closed
joins-open : (q : ℕ) (rd : Round) (xs : List Row) (e : ℕ) → judged q rd xs ≡ Joined e → rd ≡ Closed → ⊥
joins-open q rd xs e h d = absurd (let z : Wait ≡ Joined e = sym (ap (λ j. judged q j xs) d) ∙ h in cc)

module _ (code : Compiled) (p : Rules) (o : Tracked) (m n : Machine) (c b : ℕ) (f : Forked) (q : ℕ) (rd : Round) (w : Slots) (qs : List Point) (st : Stack) (e : ℕ) (t : Task) (tied : IsTied code p o (section m c b (parcall f q rd w qs st)) t) (fails : HasFailed m.roots [] m) where
  quiet : IsQuietStack code m.roots (parcall f q rd w qs st)
  quiet = tied.quiet

  closed : AreClosed st
  closed = tied.in_order.1

  round : StandsRound rd (rows w) t
  round = stands-round code p o m c b f q rd w qs st t tied.simple tied.holds quiet.2

  has-counts : (u : Task) → spent_by u ≡ spent_by t + e → rest_of u ≡ rest_of t - e → HasCounts (c + e) b u
  has-counts u h k = counted c b e (before tied.holds.1 tied.holds.2) t u tied.holds.6 h k

  -- the frame stays, and its round is closed
  closed-quiet : n.roots ≡ m.roots → IsQuietStack code n.roots (parcall f q Closed w qs st)
  closed-quiet same = subst (λ rs. IsQuietStack code rs (parcall f q Closed w qs st)) (sym same) (quiet.0, closed-count rd _ _ quiet.1, tt, quiet.3, quiet.4)

  module _ (searched : IsSearched code p o) (judges : judged q rd (rows w) ≡ Joined e) (ts : List Trees) (answers : AreAnswersOf w ts) where
    joins_then : Happens p Join e t
    joins_then = judging.joins code p o m c b f q rd w qs st t e fails round tied.holds judges

    joined : (j : Tracked) × IsJoined code p.program o m.roots f w j
        × ((n : Machine) (d : ℕ) → n.roots ≡ m.roots → Holds code n (j ∷ []) → HasCounts d b joins_then.0 → HoldsTask code p o (section n d b (parcall f q Closed w qs st)) joins_then.0)
    joined =
        join code p o m c b f q rd w qs st t joins_then.0 searched.program searched.below (all-held w ts answers) closed (stores-behind code p o m c b f q rd w qs st t tied.simple tied.holds quiet.3) tied.holds joins_then.1

    tuples : AreTuplesOf ts joined.1.answers
    tuples = tuples-of code w ts joined.1.answers (all-standing code p q _ _ rd w _ tied.holds.5.9) answers joined.1.held

    pushed : IsPushed code m.roots f joined.1.answers
    pushed = record {
      known = AllByRecursion-weaken (IsKnownGoal code) (IsKnown code) (λ g k. (k.0, k.1)) f.goals quiet.0.known;
      many = sym (open-count rd _ _ (joins-open q rd (rows w) e judges) quiet.1) ∙ held-length code w joined.1.answers joined.1.held;
      within = quiet.0.returns;
      inside = quiet.0.roots_inside;
    }

    some-met : (k : ℕ → Tree) × Fits f.cells k × MeetAll f.goals ts k
    some-met =
        let z = rejoins.some code p.program o m.roots f w joined.0 searched.program searched.below joined.1 pushed in
        (z.0, z.1, meet-tuples z.0 f.goals ts joined.1.answers tuples z.2)

    module _ (met : HasMet m.roots f ts n) where
      rejoined : HasRejoined m.roots f joined.1.answers n
      rejoined = record {
        now = met.now;
        returns = met.returns;
        roots_stay = met.roots_stay;
        points = met.points;
        cells = asked-same f.cells n.cells (MeetAll f.goals ts) (λ k. MeetAnswers k f.goals joined.1.answers) (λ k. Unit {0}) (λ k z. meet-answers k f.goals ts joined.1.answers tuples z)
            (λ k z. meet-tuples k f.goals ts joined.1.answers tuples z) met.cells;
      }

      joined-tied : IsTied code p o (section n (c + e) b (parcall f q Closed w qs st)) joins_then.0
      joined-tied = record {
        holds = joined.2 n (c + e) met.roots_stay (rejoins.rejoined code p.program o m.roots f w joined.0 n searched.program searched.below joined.1 pushed rejoined) (has-counts joins_then.0 joins_then.2 joins_then.3);
        simple = joined-simple p t joins_then.0 tied.simple joins_then.1;
        quiet = closed-quiet met.roots_stay;
        in_order = (inl refl, closed);
        in_round = tt;
      }

  module _ (judges : judged q rd (rows w) ≡ Broken e) (rests : list_any is_running (rows w) ≡ false) where
    breaks_then : Happens p Break e t
    breaks_then = judging.breaks code p o m c b f q rd w qs st t e fails round tied.holds judges rests

    broken-tied : stays rd (rows w) ≡ false → HasFailed m.roots qs n → IsTied code p o (section n (c + e) b st) breaks_then.0
    broken-tied goes_too at = record {
      holds = breaks_of.goes code p o m n c b (c + e) f q rd w qs st t breaks_then.0 closed tied.holds breaks_then.1 goes_too at (has-counts breaks_then.0 breaks_then.2 breaks_then.3);
      simple = broken-simple p t breaks_then.0 tied.simple breaks_then.1;
      quiet = subst (λ rs. IsQuietStack code rs st) (sym at.roots_stay) quiet.4;
      in_order = closed_in_order n (c + e) b st closed;
      in_round = closed_in_round n (c + e) b st breaks_then.0 closed;
    }

    closed-tied : stays rd (rows w) ≡ true → IsRedoable (rows w) → HasFailed m.roots [] n → IsTied code p o (section n (c + e) b (parcall f q Closed w qs st)) breaks_then.0
    closed-tied is_kept redoable at = record {
      holds = breaks_of.closes code p o m n c b (c + e) f q rd w qs st t breaks_then.0 closed (may-shut code p o m c b f q rd w qs st t tied.simple tied.holds quiet.3 redoable) tied.holds breaks_then.1 is_kept at
          (has-counts breaks_then.0 breaks_then.2 breaks_then.3);
      simple = broken-simple p t breaks_then.0 tied.simple breaks_then.1;
      quiet = closed-quiet at.roots_stay;
      in_order = (inl refl, closed);
      in_round = tt;
    }

pub settling : SettlingLaw
settling = record {
  joins = λ code m n c b f q rd w qs st e ts fails judges answers met p o t searched tied.
      let h = joins_then code p o m n c b f q rd w qs st e t tied fails searched judges ts answers in
      ((Join, []) ∷ [], h.0, one-event p Join t h.0 h.1, joined-tied code p o m n c b f q rd w qs st e t tied fails searched judges ts answers met);
  meets = λ code p o m c b f q rd w qs st e ts t searched tied fails judges answers. some-met code p o m m c b f q rd w qs st e t tied fails searched judges ts answers;
  breaks = λ code m n c b f q rd w qs st e fails judges rests goes_too at p o t searched tied.
      let h = breaks_then code p o m n c b f q rd w qs st e t tied fails judges rests in
      ((Break, []) ∷ [], h.0, one-event p Break t h.0 h.1, broken-tied code p o m n c b f q rd w qs st e t tied fails judges rests goes_too at);
  closes = λ code m n c b f q rd w qs st e fails judges rests is_kept redoable at p o t searched tied.
      let h = breaks_then code p o m n c b f q rd w qs st e t tied fails judges rests in
      ((Break, []) ∷ [], h.0, one-event p Break t h.0 h.1, closed-tied code p o m n c b f q rd w qs st e t tied fails judges rests is_kept redoable at);
  empties = empties;
  clears = clears;
  spends = λ code p o m c b f q rd w qs st t tied fails judges.
      judging.spends code p o m c b f q rd w qs st t fails (stands-round code p o m c b f q rd w qs st t tied.simple tied.holds tied.quiet.2) tied.holds judges;
}
