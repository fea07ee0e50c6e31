-- A slot of an open frame is drained.
use Rattle.std.proofs.Common.{◌≡◌, ℕ, zero, suc, ◌+◌, ◌-◌, ◌<◌, ◌≤◌, ◌⊎◌, inl, inr, Bool, true, false, nat_lt, if◌then◌else◌, List, [], ◌∷◌, ◌++◌, length, Option, Some, None, refl, ap, sym, ◌∙◌, subst, arith}
use Rattle.std.specs.Prelude.{position}
use Rattle.std.specs.List.{list_any, list_all}
use Rattle.std.proofs.lemmas.Bool.{false≢true, ltb-false, and_parts, or_parts}
use Rattle.ap_term.specs.Tree.{Tree}
use Rattle.ap_core.specs.declared.tasks.Round.TheVariants as core_round
use Rattle.ap_core.specs.declared.tasks.Busy.TheVariants as busy_kind
use Rattle.ap_core.specs.Tasks as core
use Rattle.ap_core.specs.Tasks.{Answer, Task, no_slot, slot, Progress, idle, stored, busy, held, redone, again, drained}
use Rattle.ap_core.specs.Conditions as conditions
use Rattle.ap_core.specs.Relation as relation
use Rattle.ap_core.specs.Relation.{drained_at, drained_with, given}
use Rattle.ap_frames.specs.declared.slots.Slot.{Slot}
use Rattle.ap_frames.specs.declared.slots.Stand.{Stand}
use Rattle.ap_frames.specs.declared.slots.Stand.TheVariants.{Ready, Waiting, Running, Answered, Replayed, Ended, GivenBack}
use Rattle.ap_frames.specs.declared.slots.Run.TheVariants.{Drained}
use Rattle.ap_frames.specs.declared.slots.Ending.{Ending}
use Rattle.ap_frames.specs.declared.slots.Ending.TheVariants as ending
use Rattle.ap_frames.specs.declared.frame.Round.{Round}
use Rattle.ap_frames.specs.declared.frame.Round.TheVariants as round
use Rattle.ap_frames.specs.declared.verdict.Verdict.{Verdict}
use Rattle.ap_frames.specs.declared.verdict.Verdict.TheVariants.{Joined, Broken, Drain, Raised, Spent}
use Rattle.ap_frames.specs.Slots.{stands_answered, has_answer, has_failed, is_loud_with_more, cost_at, tuples_of}
use Rattle.ap_frames.specs.Rows.{Row, at_place, standing, stood}
use Rattle.ap_frames.specs.Verdicts.{ended_cost, leftmost_ending, charge, rightmost, charged, by_ending, unless_failed, are_harmless, drains, after_failure, in_first, judged, verdict}
use Rattle.ap_frames.specs.Rounds.{begun_in, run_in, resumed}
use Rattle.ap_frames.proofs.Failing.{first-failed, first-unfailed, rightmost-inside}
use Rattle.ap_parcall_laws.specs.Alike.{AreAlike, StandsAs, IsDrained, IsRound}
use Rattle.ap_parcall_laws.specs.Laws.{DrainLaw}
use Rattle.ap_parcall_laws.proofs.Rows.{Failure, find-failure}
use Rattle.ap_parcall_laws.proofs.Judged.{edge-same}

-- ---- when the verdict is a drain

charged-drain : (r c i x : ℕ) (v : Verdict) → charged r c v ≡ Drain i x → (c ≤ r) × (v ≡ Drain i x)
charged-drain r c i x v h = go (nat_lt r c) refl h
  where
    go : (b : Bool) → nat_lt r c ≡ b → (if b then Spent else v) ≡ Drain i x → (c ≤ r) × (v ≡ Drain i x)
    go true e k = absurd (cc)
    go false e k = (ltb-false r c e, k)

ending-no-drain : (r c i x : ℕ) (o : Option Ending) → by_ending r c o ≡ Drain i x → ⊥
ending-no-drain r c i x None h = absurd (cc)
ending-no-drain r c i x (Some ending.Failed) h = absurd (cc)
ending-no-drain r c i x (Some ending.Spent) h = absurd (cc)
ending-no-drain r c i x (Some ending.Stopped) h = absurd (cc)
ending-no-drain r c i x (Some (ending.Raised e)) h = let k = (charged-drain r c i x (Raised c e) h).1 in absurd (cc)

unless-no-drain : {S T : Type 0} (r c i x : ℕ) (xs : List (Slot S T)) → unless_failed r c xs ≡ Drain i x → ⊥
unless-no-drain r c i x xs h = go (list_all has_answer xs) h
  where
    go : (b : Bool) → (if b then charged r c (Joined c) else by_ending r c (leftmost_ending xs)) ≡ Drain i x → ⊥
    go true k = let j = (charged-drain r c i x (Joined c) k).1 in absurd (cc)
    go false k = ending-no-drain r c i x (leftmost_ending xs) k

-- all slots left of the failed one have answers, and slot i is one of them
record Drains {S T : Type 0} (r c i x : ℕ) (ls : List (Slot S T)) : Type 0 where
  pub answered : list_all has_answer ls ≡ true
  pub place : rightmost is_loud_with_more ls ≡ Some i
  pub within : c ≤ r
  pub rest : r - c ≡ x

after-drain : {S T : Type 0} (r c i x : ℕ) (ls xs : List (Slot S T)) → after_failure r c ls xs ≡ Drain i x → Drains r c i x ls
after-drain r c i x ls xs h = go (are_harmless ls) (list_all has_answer ls) (rightmost is_loud_with_more ls) refl refl h
  where
    go : (b a : Bool) (o : Option ℕ) → list_all has_answer ls ≡ a → rightmost is_loud_with_more ls ≡ o
        → (if b then charged r c (Broken c) else (if a then drains r c o (unless_failed r c xs) else unless_failed r c xs)) ≡ Drain i x → Drains r c i x ls
    go true a o e f k = let j = (charged-drain r c i x (Broken c) k).1 in absurd (cc)
    go false true None e f k = absurd (unless-no-drain r c i x xs k)
    go false true (Some p) e f k =
        let j = charged-drain r c i x (Drain p (r - c)) k in
        let d : Drain p (r - c) ≡ Drain i x = j.1 in
        let u : p ≡ i = cc in
        let v : r - c ≡ x = cc in
        record { answered = e; place = f ∙ ap Some u; within = j.0; rest = v }
    go false false o e f k = absurd (unless-no-drain r c i x xs k)

first-drain : {S T : Type 0} (r c i x : ℕ) (xs : List (Slot S T)) → in_first r c xs (position has_failed xs) ≡ Drain i x → (f : Failure xs) × Drains r c i x f.before
first-drain {S} {T} r c i x xs h = go (find-failure xs)
  where
    go : (list_any has_failed xs ≡ false) ⊎ Failure xs → (f : Failure xs) × Drains r c i x f.before
    go (inl n) = absurd (unless-no-drain r c i x xs (sym (first-unfailed r c xs n) ∙ h))
    go (inr f) =
        let e : in_first r c (f.before ++ f.at ∷ f.after) (position has_failed (f.before ++ f.at ∷ f.after)) ≡ Drain i x = subst (λ ys. in_first r c ys (position has_failed ys) ≡ Drain i x) f.parts h in
        (f, after-drain r c i x f.before (f.before ++ f.at ∷ f.after) (sym (first-failed r c f.before f.after f.at f.none_before f.fails) ∙ e))

-- ---- what becomes of the slots

held-of : {S : Type 0} (r : ℕ) (s : Stand S) (n : ℕ) (y : Progress) → stands_answered s ≡ true → conditions.is_again y ≡ false → StandsAs r s n y → (m : List Answer) × (a : Answer) × (t : Task) × (y ≡ held m a t (cost_at s))
held-of r Ready n y a g h = absurd (false≢true a)
held-of r Waiting n y a g h = absurd (false≢true a)
held-of r (Running b) n y a g h = absurd (false≢true a)
held-of r (Answered z) n y a g (t, (m, v, inl p), l) = (m, v, t, p)
held-of r (Answered z) n y a g (t, (m, v, inr p), l) = absurd (false≢true (sym g ∙ ap conditions.is_again p))
held-of r (Replayed k) n y a g (e, c, rest, (m, v, inl p), l) = (m, v, _, p)
held-of r (Replayed k) n y a g (e, c, rest, (m, v, inr p), l) = absurd (false≢true (sym g ∙ ap conditions.is_again p))
held-of r (Ended e c) n y a g h = absurd (false≢true a)
held-of r GivenBack n y a g h = absurd (false≢true a)

edge-above : (r b : ℕ) (w : core.Slots) → b ≤ conditions.left_edge r b w
edge-above r b no_slot = omega arith
edge-above r b (slot g k (idle i) w) = omega arith
edge-above r b (slot g k (stored m) w) = omega arith
edge-above r b (slot g k (busy x t) w) = omega arith
edge-above r b (slot g k (held m a t c) w) = omega (arith, edge-above r (b + c) w)
edge-above r b (slot g k (redone m x t i) w) = omega arith
edge-above r b (slot g k (again m a t c) w) = omega (arith, edge-above r (b + c) w)
edge-above r b (slot g k (drained m x t i d) w) = omega arith

drain-at : {S T : Type 0} (loud : Tree → Bool) (r x j b e : ℕ) (ls ms : List (Slot S T)) (w : core.Slots) → AreAlike loud r (ls ++ ms) w → list_all has_answer ls ≡ true → j < length ls
    → conditions.some_is_again w ≡ false → b + e ≡ conditions.left_edge r b w
    → AreAlike loud r (at_place (standing (Running Drained)) j (ls ++ ms)) (drained_at x e (suc j) w) × IsDrained (conditions.left_edge r b w) r 0 b (drained_at x e (suc j) w)
    × (ended_cost (at_place (standing (Running Drained)) j (ls ++ ms)) ≡ 0)
drain-at loud r x j b e [] ms w h a k u d = absurd (omega (arith, k))
drain-at loud r x j b e (l ∷ ls) ms no_slot h a k u d = absurd h
drain-at {S} {T} loud r x zero b e (l ∷ ls) ms (slot g f y w) (q, s, h) a k u d = go (held-of r l.stand (length (tuples_of l)) y (and_parts (has_answer l) (list_all has_answer ls) a).0 (or_parts (conditions.is_again y) (conditions.some_is_again w) u).0 s)
  where
    go : (m : List Answer) × (z : Answer) × (t : Task) × (y ≡ held m z t (cost_at l.stand))
        → AreAlike loud r (standing (Running Drained) l ∷ (ls ++ ms)) (slot g f (drained_with x e y) w) × IsDrained (conditions.left_edge r b (slot g f y w)) r 0 b (slot g f (drained_with x e y) w) × (ended_cost (standing (Running Drained) l ∷ (ls ++ ms)) ≡ 0)
    go (m, z, t, p) =
        let v : drained_with x e y ≡ drained (m ++ z ∷ []) busy_kind.Running (given x t) (conditions.spent_by t) e = ap (drained_with x e) p in (
          (q, (m ++ z ∷ [], busy_kind.Running, given x t, conditions.spent_by t, e, v, refl), h),
          subst (λ o. IsDrained (conditions.left_edge r b (slot g f y w)) r 0 b (slot g f o w)) (sym v) (d, refl),
          refl,
        )
drain-at {S} {T} loud r x (suc j) b e (l ∷ ls) ms (slot g f y w) (q, s, h) a k u d =
    go (held-of r l.stand (length (tuples_of l)) y (and_parts (has_answer l) (list_all has_answer ls) a).0 (or_parts (conditions.is_again y) (conditions.some_is_again w) u).0 s)
    (λ c o. drain-at loud r x j (b + c) (e - c) ls ms w h (and_parts (has_answer l) (list_all has_answer ls) a).1 (omega (arith, k)) (or_parts (conditions.is_again y) (conditions.some_is_again w) u).1 o)
  where
    go : (m : List Answer) × (z : Answer) × (t : Task) × (y ≡ held m z t (cost_at l.stand))
        → ((c : ℕ) → (b + c) + (e - c) ≡ conditions.left_edge r (b + c) w → AreAlike loud r (at_place (standing (Running Drained)) j (ls ++ ms)) (drained_at x (e - c) (suc j) w)
        × IsDrained (conditions.left_edge r (b + c) w) r 0 (b + c) (drained_at x (e - c) (suc j) w) × (ended_cost (at_place (standing (Running Drained)) j (ls ++ ms)) ≡ 0))
        → AreAlike loud r (l ∷ at_place (standing (Running Drained)) j (ls ++ ms)) (slot g f y (drained_at x (e - relation.cost_of y) (suc j) w))
        × IsDrained (conditions.left_edge r b (slot g f y w)) r 0 b (slot g f y (drained_at x (e - relation.cost_of y) (suc j) w))
        × (ended_cost (l ∷ at_place (standing (Running Drained)) j (ls ++ ms)) ≡ 0)
    go (m, z, t, p) rec =
        let n1 : conditions.left_edge r b (slot g f y w) ≡ conditions.left_edge r (b + cost_at l.stand) w = ap (λ o. conditions.left_edge r b (slot g f o w)) p in
        let n2 : b + cost_at l.stand ≤ conditions.left_edge r (b + cost_at l.stand) w = edge-above r (b + cost_at l.stand) w in
        let n3 : (b + cost_at l.stand) + (e - cost_at l.stand) ≡ conditions.left_edge r (b + cost_at l.stand) w = omega (arith, n1, n2, d) in
        let z0 = rec (cost_at l.stand) n3 in
        let n4 : e - relation.cost_of y ≡ e - cost_at l.stand = ap (λ o. e - relation.cost_of o) p in
        let w1 = subst (λ o. AreAlike loud r (at_place (standing (Running Drained)) j (ls ++ ms)) (drained_at x o (suc j) w)) (sym n4) z0.0 in
        let w2 : IsDrained (conditions.left_edge r (b + cost_at l.stand) w) r 0 (b + cost_at l.stand) (drained_at x (e - relation.cost_of y) (suc j) w) =
        subst (λ o. IsDrained (conditions.left_edge r (b + cost_at l.stand) w) r 0 (b + cost_at l.stand) (drained_at x o (suc j) w)) (sym n4) z0.1 in
        let w3 : IsDrained (conditions.left_edge r b (slot g f y w)) r 0 b (slot g f (held m z t (cost_at l.stand)) (drained_at x (e - relation.cost_of y) (suc j) w)) =
        subst (λ o. IsDrained o r 0 (b + cost_at l.stand) (drained_at x (e - relation.cost_of y) (suc j) w)) (sym n1) w2 in (
          (q, s, w1),
          subst (λ o. IsDrained (conditions.left_edge r b (slot g f y w)) r 0 b (slot g f o (drained_at x (e - relation.cost_of y) (suc j) w))) (sym p) w3,
          ap (λ o. if o then ended_cost (at_place (standing (Running Drained)) j (ls ++ ms)) else cost_at l.stand) (and_parts (has_answer l) (list_all has_answer ls) a).0 ∙ z0.2,
        )

-- ---- the whole

drain-slots : {S T : Type 0} (loud : Tree → Bool) (r c i x : ℕ) (xs : List (Slot S T)) (w : core.Slots) → AreAlike loud r xs w → conditions.some_is_again w ≡ false → conditions.left_edge r 0 w ≡ c
    → in_first r c xs (position has_failed xs) ≡ Drain i x
    → AreAlike loud r (at_place (standing (Running Drained)) (i - 1) xs) (drained_at x (conditions.left_edge r 0 w) i w)
    × IsDrained (r - x) r (ended_cost (at_place (standing (Running Drained)) (i - 1) xs)) 0 (drained_at x (conditions.left_edge r 0 w) i w)
drain-slots {S} {T} loud r c i x xs w h u e v = go (first-drain r c i x xs v)
  where
    e0 : ℕ
    e0 = conditions.left_edge r 0 w

    on : List (Slot S T) → ℕ → ℕ → Type 0
    on ys j n = AreAlike loud r (at_place (standing (Running Drained)) (i - 1) ys) (drained_at x e0 j w) × IsDrained n r (ended_cost (at_place (standing (Running Drained)) (i - 1) ys)) 0 (drained_at x e0 j w)

    go : (f : Failure xs) × Drains r c i x f.before → on xs i (r - x)
    go (f, d) =
        let b = rightmost-inside is_loud_with_more f.before i d.place in
        let j1 : suc (i - 1) ≡ i = omega (arith, b.0) in
        let j2 : i - 1 < length f.before = omega (arith, b.0, b.1) in
        let n1 : e0 ≡ r - x = omega (arith, e, d.within, d.rest) in
        let m : 0 + e0 ≡ e0 = omega arith in
        let z = drain-at loud r x (i - 1) 0 e0 f.before (f.at ∷ f.after) w (subst (λ ys. AreAlike loud r ys w) f.parts h) d.answered j2 u m in
        let k : on (f.before ++ f.at ∷ f.after) (suc (i - 1)) e0 = (z.0, subst (λ o. IsDrained e0 r o 0 (drained_at x e0 (suc (i - 1)) w)) (sym z.2) z.1) in
        subst (λ n. on xs i n) n1 (subst (λ j. on xs j e0) j1 (subst (λ ys. on ys (suc (i - 1)) e0) (sym f.parts) k))

drain-row : {S T : Type 0} (loud : Tree → Bool) (i x : ℕ) (f : Row S T) (w : core.Slots) → AreAlike loud f.rest f.slots w → IsRound f.round f.rest f.slots core_round.First w → verdict f ≡ Drain i x
    → conditions.some_is_again w ≡ false
    → AreAlike loud f.rest (resumed i x f).slots (drained_at x (conditions.left_edge f.rest 0 w) i w)
    × IsRound (resumed i x f).round f.rest (resumed i x f).slots core_round.First (drained_at x (conditions.left_edge f.rest 0 w) i w)
drain-row {S} {T} loud i x f w h k v u = go f.round refl k
  where
    same-row : (d : Round) → f.round ≡ d → stood i (Running (run_in d)) (begun_in d i x f) ≡ resumed i x f
    same-row d e = sym (ap (λ o. stood i (Running (run_in o)) (begun_in o i x f)) e)

    Goal : Row S T → Type 0
    Goal g = AreAlike loud f.rest g.slots (drained_at x (conditions.left_edge f.rest 0 w) i w) × IsRound g.round f.rest g.slots core_round.First (drained_at x (conditions.left_edge f.rest 0 w) i w)

    go : (d : Round) → f.round ≡ d → IsRound d f.rest f.slots core_round.First w → Goal (resumed i x f)
    go round.First e o =
        let j : judged f.rest round.First f.slots ≡ Drain i x = sym (ap (λ q. judged f.rest q f.slots) e) ∙ v in
        subst Goal (same-row round.First e) (drain-slots loud f.rest (charge round.First f.slots) i x f.slots w h u (edge-same loud f.rest round.First core_round.First f.slots w h o refl) j)
    go (round.Draining n) e o =
        let j : judged f.rest (round.Draining n) f.slots ≡ Drain i x = sym (ap (λ q. judged f.rest q f.slots) e) ∙ v in
        subst Goal (same-row (round.Draining n) e) (drain-slots loud f.rest (charge (round.Draining n) f.slots) i x f.slots w h u (edge-same loud f.rest (round.Draining n) core_round.First f.slots w h o refl) j)
    go (round.Later j) e o = absurd o
    go round.Closed e o = absurd o

pub drainings : (S T : Type 0) → DrainLaw S T
drainings S T = record { drained = drain-row }
