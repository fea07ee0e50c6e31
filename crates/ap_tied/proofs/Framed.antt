-- What is known of a section that a task is tied to, and in which a frame comes first.
use Rattle.std.proofs.Common.{◌≡◌, ℕ, zero, suc, ◌+◌, ◌-◌, inl, Bool, false, List, [], ◌∷◌, ◌++◌, Some, refl, ap, sym, ◌∙◌, subst, arith}
use Rattle.std.proofs.lemmas.Option.{none-some}
use Rattle.std.specs.Prelude.{length, option_and_then}
use Rattle.std.specs.List.{AllZip}
use Rattle.ap_term.specs.Tree.{Trees, none, more}
use Rattle.ap_term.specs.Substitution.{instance_all}
use Rattle.ap_term.specs.Search.{State}
use Rattle.ap_core.specs.declared.tasks.Idle.TheVariants.{Waiting}
use Rattle.ap_core.specs.declared.events.Kind.{Kind}
use Rattle.ap_core.specs.Tasks as core
use Rattle.ap_core.specs.Tasks.{Task, task, Alternatives, exhausted, alternative, Alternative, state, frame, Progress, idle, stored, busy, again, redone, drained}
use Rattle.ap_core.specs.Conditions.{spent_by}
use Rattle.ap_core.specs.Relation.{Rules, own, put_away, if_kept}
use Rattle.ap_frames.specs.declared.frame.Round.{Round}
use Rattle.ap_frames.specs.declared.frame.Round.TheVariants.{First, Draining, Later, Closed}
use Rattle.ap_frames.specs.Slots.{listed}
use Rattle.ap_frames.specs.Verdicts.{next_redo}
use Rattle.ap_parcall_laws.specs.Alike.{IsUndrained, IsRound, AreStored, AreStoredBehind}
use Rattle.ap_tracked.specs.Tracked.{Tracked, untracked}
use Rattle.ap_instr.specs.Code.{Compiled}
use Rattle.ap_standing.specs.Machine.{Point, Machine}
use Rattle.ap_group.specs.Groups.{Forked}
use Rattle.ap_tie.specs.Sections.{Row, section, Stack, parcall, Slots, no_slot, slot, rows}
use Rattle.ap_tie.specs.Shows.{Shows, before}
use Rattle.ap_tie.specs.Slots.{rest_of}
use Rattle.ap_tie.specs.Tied.{round_of, UnlessCleared, HoldsTask, HoldsSlots}
use Rattle.ap_tie.proofs.Cleared.{slot-stands}
use Rattle.ap_tie.specs.Settled.{StoresBehind, MayShut, HasCounts}
use Rattle.ap_tie.specs.Judged.{StandsRound}
use Rattle.ap_tied.specs.Happened.{happened}
use Rattle.ap_tied.specs.Ties.{IsSimple, SlotsAreSimple, IsQuietRound, AreQuietSlots}
use Rattle.ap_tied.specs.Settling.{IsRedoable}

-- ---- events

-- an event of the task itself, and no other
pub one-event : (p : Rules) (k : Kind) (t u : Task) → own p k t ≡ Some u → happened p ((k, []) ∷ []) t ≡ Some u
one-event p k t u h = ap (option_and_then (happened p [])) h

-- what the section has spent is what the task has, as long as its events cost so much
pub counted : (c b e : ℕ) (l : Alternatives) (t u : Task) → t ≡ task (b - c) c l → spent_by u ≡ spent_by t + e → rest_of u ≡ rest_of t - e → HasCounts (c + e) b u
counted c b e l t u is s r = record {
  spent = s ∙ ap (λ z. spent_by z + e) is;
  rest = let d : (b - c) - e ≡ b - (c + e) = omega arith in r ∙ ap (λ z. rest_of z - e) is ∙ d;
}

-- ---- slots of the core

-- no slot is drained
undrained : (v : core.Slots) → SlotsAreSimple v → IsUndrained v
undrained core.no_slot h = tt
undrained (core.slot g k (idle i) v) h = tt
undrained (core.slot g k (stored m) v) h = tt
undrained (core.slot g k (busy b t) v) h = tt
undrained (core.slot g k (core.held m a t c) v) h = undrained v h.2
undrained (core.slot g k (redone m b t i) v) h = tt
undrained (core.slot g k (again m a t c) v) h = undrained v h.2
undrained (core.slot g k (drained m b t i e) v) h = absurd h.1

round-stands : (rd : Round) (r : ℕ) (xs : List Row) (v : core.Slots) → IsQuietRound rd → SlotsAreSimple v → IsRound rd r xs (round_of rd) v
round-stands First r xs v q h = undrained v h
round-stands (Draining n) r xs v q h = absurd q
round-stands (Later i) r xs v q h = undrained v h
round-stands Closed r xs v q h = tt

-- a slot whose answers aren't kept waits for its goal's search
waits : (k : Bool) (y : Progress) → k ≡ false → put_away k y ≡ idle Waiting
waits k (idle i) h = refl
waits k (stored m) h = ap (λ b. if_kept b m) h
waits k (busy b t) h = refl
waits k (core.held m a t c) h = ap (λ b. if_kept b (m ++ a ∷ [])) h
waits k (redone m b t i) h = ap (λ b. if_kept b m) h
waits k (again m a t c) h = ap (λ b. if_kept b (m ++ a ∷ [])) h
waits k (drained m b t i e) h = refl

module _ (code : Compiled) (p : Rules) (q n : ℕ) where
  none-stored : (gs : Trees) (w : Slots) (v : core.Slots) → HoldsSlots code p q n gs w v → AreQuietSlots code w → SlotsAreSimple v → AreStored (rows w) v
  none-stored none no_slot v h a s = subst (AreStored (rows no_slot)) (sym h) tt
  none-stored none (slot x d w) v h a s = absurd h
  none-stored (more g gs) no_slot v h a s = absurd h
  none-stored (more g gs) (slot x d w) v (k, y, u, here, rest, whole) a s =
      let z : SlotsAreSimple (core.slot g k y u) = subst SlotsAreSimple whole s in
      subst (AreStored (rows (slot x d w))) (sym whole) (inl (waits k y z.0, ap (λ o. length (listed o)) a.1), none-stored gs w u rest a.3 z.2)

  pub stored-behind : (i : ℕ) (gs : Trees) (w : Slots) (v : core.Slots) → HoldsSlots code p q n gs w v → AreQuietSlots code w → SlotsAreSimple v → AreStoredBehind i (rows w) v
  stored-behind zero gs w v h a s = none-stored gs w v h a s
  stored-behind (suc i) none no_slot v h a s = tt
  stored-behind (suc i) none (slot x d w) v h a s = absurd h
  stored-behind (suc i) (more g gs) no_slot v h a s = absurd h
  stored-behind (suc i) (more g gs) (slot x d w) v (k, y, u, here, rest, whole) a s =
      let z : SlotsAreSimple (core.slot g k y u) = subst SlotsAreSimple whole s in
      subst (AreStoredBehind (suc i) (rows (slot x d w))) (sym whole) (stored-behind i gs w u rest a.3 z.2)

  -- where one of them can be redone they are there
  stored-redo : (rd : Round) (i : ℕ) (gs : Trees) (w : Slots) (v : core.Slots) → next_redo (rows w) ≡ Some i → UnlessCleared rd w v (HoldsSlots code p q n gs w v) → AreQuietSlots code w → SlotsAreSimple v
      → AreStoredBehind i (rows w) v
  stored-redo rd i gs no_slot v e h a s = absurd (none-some _ e)
  stored-redo rd i gs (slot x d w) v e h a s = stored-behind i gs (slot x d w) v (slot-stands rd x d w v _ h) a s

-- ---- a frame that comes first in the section

module _ (code : Compiled) (p : Rules) (o : Tracked) (m : Machine) (c b : ℕ) (f : Forked) (q : ℕ) (rd : Round) (w : Slots) (qs : List Point) (st : Stack) (t : Task) (simple : IsSimple t) where
  -- the first alternative of the task is a state, or that frame
  pub by-first : (P : Task → Type 0) → HoldsTask code p o (section m c b (parcall f q rd w qs st)) t → ((r d : ℕ) (s : State) (l : Alternatives) → P (task r d (alternative (state s) l)))
      → ((r d n : ℕ) (gs : Trees) (s : State) (v : core.Slots) (l : Alternatives) → UnlessCleared rd w v (HoldsSlots code p q n gs w v) → SlotsAreSimple v → P (task r d (alternative (frame s (round_of rd) v) l)))
      → P t
  by-first P (ss, xs, l, holds, shown, (s, i, v, sv, ys, k, kept, rest, shut, slots, points, shows, older, z), is) at_state at_frame = go ss xs shown is
    where
      go : (ss : List Tracked) (xs : List Alternative) → AllZip (Shows p.program o) ss xs → t ≡ task (b - c) c (before xs l) → P t
      go [] [] h is =
          let whole : t ≡ task (b - c) c (alternative (frame (untracked s) (round_of rd) v) (before ys k)) = is ∙ ap (task (b - c) c) z in
          let simple_whole : IsSimple (task (b - c) c (alternative (frame (untracked s) (round_of rd) v) (before ys k))) = subst IsSimple whole simple in
          subst P (sym whole) (at_frame (b - c) c s.next (instance_all i.own i.goals) (untracked s) v (before ys k) slots simple_whole.0)
      go (s ∷ ss) [] h is = absurd h
      go [] (y ∷ ys) h is = absurd h
      go (s ∷ ss) (frame y rd w ∷ ys) h is = absurd h.0
      go (s ∷ ss) (state y ∷ ys) h is = subst P (sym is) (at_state (b - c) c y (before ys l))

  module _ (h : HoldsTask code p o (section m c b (parcall f q rd w qs st)) t) where
    pub stands-round : IsQuietRound rd → StandsRound rd (rows w) t
    stands-round quiet = by-first (StandsRound rd (rows w)) h (λ r d s l. tt) (λ r d n gs s v l slots z. round-stands rd r (rows w) v quiet z)

    pub stores-behind : AreQuietSlots code w → StoresBehind (rows w) t
    stores-behind quiet = by-first (StoresBehind (rows w)) h (λ r d s l. tt) (λ r d n gs s v l slots z. λ i e. stored-redo code p q n rd i gs w v e slots quiet z)

    pub may-shut : AreQuietSlots code w → IsRedoable (rows w) → MayShut (rows w) t
    may-shut quiet redoable = by-first (MayShut (rows w)) h (λ r d s l. tt) (λ r d n gs s v l slots z. λ i e. (redoable i e, stored-redo code p q n rd i gs w v e slots quiet z))
