-- A closed frame is redone.
use Rattle.std.proofs.Common.{◌≡◌, ℕ, zero, suc, ◌+◌, ◌-◌, ◌<◌, inl, inr, Bool, true, false, ◌&&◌, if◌then◌else◌, is_some, List, [], ◌∷◌, ◌++◌, length, take, Option, Some, None, refl, ap, ap₂, sym, ◌∙◌, subst, arith}
use Rattle.std.specs.List.{list_all}
use Rattle.std.specs.Ordering.{nat_cmp}
use Rattle.std.specs.declared.cmp.Ordering.{Ordering}
use Rattle.std.specs.declared.cmp.Ordering.TheVariants.{Less, Equal}
use Rattle.std.proofs.lemmas.Bool.{false≢true, and_parts}
use Rattle.std.proofs.lemmas.Option.{same_Some, none-some}
use Rattle.ap_term.specs.Tree.{Tree}
use Rattle.ap_term.proofs.Facts.{cmp_less, cmp_equal, cmp_greater}
use Rattle.ap_core.specs.declared.tasks.Busy.{Busy}
use Rattle.ap_core.specs.declared.tasks.Busy.TheVariants as busy_kind
use Rattle.ap_core.specs.declared.tasks.Round.TheVariants as core_round
use Rattle.ap_core.specs.Tasks as core
use Rattle.ap_core.specs.Tasks.{Answer, Task, task, exhausted, no_slot, slot, Progress, idle, stored, busy, held, redone, again, drained}
use Rattle.ap_core.specs.Conditions as conditions
use Rattle.ap_core.specs.Relation.{kept, put_away, all_put_away, restarted_with, redo_from, given}
use Rattle.ap_frames.specs.declared.slots.Slot.{Slot}
use Rattle.ap_frames.specs.declared.slots.Stand.{Stand}
use Rattle.ap_frames.specs.declared.slots.Stand.TheVariants.{Ready, Waiting, Running, Answered, Replayed, Ended, GivenBack}
use Rattle.ap_frames.specs.declared.slots.Run.TheVariants.{Redone}
use Rattle.ap_frames.specs.declared.frame.Round.TheVariants as round
use Rattle.ap_frames.specs.Slots.{stands_answered, has_answer, has_more, more_at, tuples_of}
use Rattle.ap_frames.specs.Rows.{Row, at_place, standing, stood}
use Rattle.ap_frames.specs.Verdicts.{place_behind, next_redo}
use Rattle.ap_frames.specs.Rounds.{numbered, reset, reset_by, without_cost, new_round, begun_in, run_in, resumed}
use Rattle.ap_parcall_laws.specs.Alike.{AreAlike, StandsAs, HasAnswer, AreStored, AreStoredBehind, IsUndrained, IsRound}
use Rattle.ap_parcall_laws.specs.Laws.{RedoLaw}
use Rattle.ap_parcall_laws.proofs.Rows.{more-alike}

-- ---- right of the redone slot

put-away : {S T : Type 0} (loud : Tree → Bool) (q r i n : ℕ) (xs : List (Slot S T)) (w : core.Slots) → AreAlike loud q xs w → i < n → AreStored xs w → AreAlike loud r (numbered (reset_by i) n xs) (all_put_away w)
put-away loud q r i n [] no_slot h l s = tt
put-away loud q r i n [] (slot g k y w) h l s = absurd h
put-away loud q r i n (x ∷ xs) no_slot h l s = absurd h
put-away loud q r i n (x ∷ xs) (slot g k y w) (a, b, h) l (s, t) =
    subst (λ o. AreAlike loud r (reset o x ∷ numbered (reset_by i) (n + 1) xs) (slot g k (put_away k y) (all_put_away w))) (sym (cmp_greater n i l))
    (a, s, put-away loud q r i (n + 1) xs w h (omega (arith, l)) t)

-- ---- left of it, and itself

answer-kept : (t : Task) (c : ℕ) (y : Progress) → HasAnswer t c y → HasAnswer t 0 (kept y)
answer-kept t c y (m, a, inl p) = (m, a, inl (ap kept p))
answer-kept t c y (m, a, inr p) = (m, a, inl (ap kept p))

stands-kept : {S : Type 0} (q r : ℕ) (s : Stand S) (n : ℕ) (y : Progress) → stands_answered s ≡ true → StandsAs q s n y → StandsAs r (without_cost s) n (kept y)
stands-kept q r Ready n y a h = absurd (false≢true a)
stands-kept q r Waiting n y a h = absurd (false≢true a)
stands-kept q r (Running b) n y a h = absurd (false≢true a)
stands-kept q r (Answered z) n y a (t, h, l) = (t, answer-kept t z.cost y h, l)
stands-kept q r (Replayed k) n y a (e, c, rest, h, l) = (e, c, rest, answer-kept _ 0 y h, l)
stands-kept q r (Ended e c) n y a h = absurd (false≢true a)
stands-kept q r GivenBack n y a h = absurd (false≢true a)

-- it runs on in the round of its redo
abbrev pub RunsOn : Progress → Type 0
RunsOn y = (m : List Answer) × (b : Busy) × (t : Task) × (i : ℕ) × (y ≡ redone m b t i) × (conditions.is_running b ≡ true)

answer-runs : (r : ℕ) (t : Task) (c : ℕ) (y : Progress) → HasAnswer t c y → RunsOn (restarted_with r y)
answer-runs r t c y (m, a, inl p) = (m ++ a ∷ [], busy_kind.Running, given r t, conditions.spent_by t, ap (restarted_with r) p, refl)
answer-runs r t c y (m, a, inr p) = (m ++ a ∷ [], busy_kind.Running, given r t, conditions.spent_by t, ap (restarted_with r) p, refl)

stands-on : {S : Type 0} (q r : ℕ) (s : Stand S) (n : ℕ) (y : Progress) → more_at n s ≡ true → StandsAs q s n y → RunsOn (restarted_with r y)
stands-on q r Ready n y a h = absurd (false≢true a)
stands-on q r Waiting n y a h = absurd (false≢true a)
stands-on q r (Running b) n y a h = absurd (false≢true a)
stands-on q r (Answered z) n y a (t, h, l) = answer-runs r t z.cost y h
stands-on q r (Replayed k) n y a (e, c, rest, h, l) = answer-runs r _ 0 y h
stands-on q r (Ended e c) n y a h = absurd (false≢true a)
stands-on q r GivenBack n y a h = absurd (false≢true a)

kept-held : {S : Type 0} (q : ℕ) (s : Stand S) (n : ℕ) (y : Progress) → stands_answered s ≡ true → StandsAs q s n y → (m : List Answer) × (z : Answer) × (t : Task) × (kept y ≡ held m z t 0)
kept-held q Ready n y a h = absurd (false≢true a)
kept-held q Waiting n y a h = absurd (false≢true a)
kept-held q (Running b) n y a h = absurd (false≢true a)
kept-held q (Answered z) n y a (t, (m, v, inl p), l) = (m, v, t, ap kept p)
kept-held q (Answered z) n y a (t, (m, v, inr p), l) = (m, v, t, ap kept p)
kept-held q (Replayed k) n y a (e, c, rest, (m, v, inl p), l) = (m, v, _, ap kept p)
kept-held q (Replayed k) n y a (e, c, rest, (m, v, inr p), l) = (m, v, _, ap kept p)
kept-held q (Ended e c) n y a h = absurd (false≢true a)
kept-held q GivenBack n y a h = absurd (false≢true a)

undrained-kept : {S : Type 0} (q : ℕ) (s : Stand S) (n : ℕ) (y : Progress) (g : Tree) (k : Bool) (w : core.Slots) → stands_answered s ≡ true → StandsAs q s n y → IsUndrained w → IsUndrained (slot g k (kept y) w)
undrained-kept q s n y g k w a h u = go (kept-held q s n y a h)
  where
    go : (m : List Answer) × (z : Answer) × (t : Task) × (kept y ≡ held m z t 0) → IsUndrained (slot g k (kept y) w)
    go (m, z, t, p) = subst (λ v. IsUndrained (slot g k v w)) (sym p) u

undrained-on : (y : Progress) (g : Tree) (k : Bool) (w : core.Slots) → RunsOn y → IsUndrained (slot g k y w)
undrained-on y g k w (m, b, t, i, p, h) = subst (λ v. IsUndrained (slot g k v w)) (sym p) tt

-- ---- the whole

from-one : (o : Option ℕ) (k : Bool) (j : ℕ) → place_behind o k ≡ Some j → 0 < j
from-one (Some n) k j h = omega (arith, same_Some _ _ h)
from-one None true j h = omega (arith, same_Some _ _ h)
from-one None false j h = absurd (none-some _ h)

pub redo-from-one : {S T : Type 0} (xs : List (Slot S T)) (j : ℕ) → next_redo xs ≡ Some j → 0 < j
redo-from-one [] j e = absurd (none-some _ e)
redo-from-one (x ∷ xs) j e = from-one (next_redo xs) (has_more x) j e

redo-alike : {S T : Type 0} (loud : Tree → Bool) (q r i n j : ℕ) (xs : List (Slot S T)) (w : core.Slots) → AreAlike loud q xs w → next_redo xs ≡ Some j → i + 1 ≡ n + j
    → list_all has_answer (take (j - 1) xs) ≡ true → AreStoredBehind j xs w
    → AreAlike loud r (at_place (standing (Running Redone)) (j - 1) (numbered (reset_by i) n xs)) (redo_from r w) × IsUndrained (redo_from r w)
redo-alike loud q r i n j [] w h e m a b = absurd (none-some _ e)
redo-alike loud q r i n j (x ∷ xs) no_slot h e m a b = absurd h
redo-alike {S} {T} loud q r i n j (x ∷ xs) (slot g k y w) (l, s, h) e m a b =
    go (next_redo xs) (has_more x) refl refl (λ p f u v. redo-alike loud q r i (n + 1) p xs w h f (omega (arith, u)) v.0 v.1)
  where
    Goal : ℕ → Ordering → Bool → Type 0
    Goal jj o c =
        AreAlike loud r (at_place (standing (Running Redone)) jj (reset o x ∷ numbered (reset_by i) (n + 1) xs)) (if c then slot g k (kept y) (redo_from r w) else slot g k (restarted_with r y) (all_put_away w))
        × IsUndrained (if c then slot g k (kept y) (redo_from r w) else slot g k (restarted_with r y) (all_put_away w))

    from : (jj : ℕ) (o : Ordering) (c : Bool) → jj ≡ j - 1 → nat_cmp n i ≡ o → is_some (next_redo xs) ≡ c → Goal jj o c → Goal (j - 1) (nat_cmp n i) (conditions.some_has_more w)
    from jj o c e1 e2 e3 z =
        subst (λ v. Goal v (nat_cmp n i) (conditions.some_has_more w)) e1
        (subst (λ v. Goal jj v (conditions.some_has_more w)) (sym e2) (subst (λ v. Goal jj o v) (sym (more-alike loud q xs w h ∙ e3)) z))

    go : (o : Option ℕ) (c : Bool) → next_redo xs ≡ o → has_more x ≡ c
        → ((p : ℕ) → next_redo xs ≡ Some p → i + 1 ≡ n + (p + 1) → (list_all has_answer (take (p - 1) xs) ≡ true) × AreStoredBehind p xs w
        → AreAlike loud r (at_place (standing (Running Redone)) (p - 1) (numbered (reset_by i) (n + 1) xs)) (redo_from r w) × IsUndrained (redo_from r w))
        → Goal (j - 1) (nat_cmp n i) (conditions.some_has_more w)
    go (Some p) c f d rec =
        let e1 : p + 1 ≡ j = same_Some _ _ (sym (ap₂ place_behind f d) ∙ e) in
        let e0 : 0 < p = redo-from-one xs p f in
        let e2 : suc (p - 1) ≡ j - 1 = omega (arith, e0, e1) in
        let e3 : n < i = omega (arith, e0, e1, m) in
        let e4 : j ≡ suc p = omega (arith, e1) in
        let a1 : (has_answer x && list_all has_answer (take (p - 1) xs)) ≡ true = subst (λ v. list_all has_answer (take v (x ∷ xs)) ≡ true) (sym e2) a in
        let a2 = and_parts (has_answer x) (list_all has_answer (take (p - 1) xs)) a1 in
        let b1 : AreStoredBehind p xs w = subst (λ v. AreStoredBehind v (x ∷ xs) (slot g k y w)) e4 b in
        let z = rec p f (m ∙ ap (λ v. n + v) (sym e1)) (a2.1, b1) in
        from (suc (p - 1)) Less true e2 (cmp_less n i e3) (ap is_some f)
        ((l, stands-kept q r x.stand (length (tuples_of x)) y a2.0 s, z.0), undrained-kept q x.stand (length (tuples_of x)) y g k (redo_from r w) a2.0 s z.1)
    go None true f d rec =
        let e1 : 1 ≡ j = same_Some _ _ (sym (ap₂ place_behind f d) ∙ e) in
        let e2 : zero ≡ j - 1 = omega (arith, e1) in
        let e3 : n ≡ i = omega (arith, e1, m) in
        let e4 : j ≡ suc zero = omega (arith, e1) in
        let b1 : AreStored xs w = subst (λ v. AreStoredBehind v (x ∷ xs) (slot g k y w)) e4 b in
        let on = stands-on {S = S} q r x.stand (length (tuples_of x)) y d s in
        from zero Equal false e2 (cmp_equal n i e3) (ap is_some f)
        ((l, on, put-away loud q r i (n + 1) xs w h (omega (arith, e3)) b1), undrained-on (restarted_with r y) g k (all_put_away w) on)
    go None false f d rec = absurd (none-some _ (sym (ap₂ place_behind f d) ∙ e))

closed-resumed : {S T : Type 0} (i r : ℕ) (f : Row S T) → f.round ≡ round.Closed → stood i (Running Redone) (new_round i r f) ≡ resumed i r f
closed-resumed i r f c = sym (ap (λ d. stood i (Running (run_in d)) (begun_in d i r f)) c)

redone-row : {S T : Type 0} (loud : Tree → Bool) (r i : ℕ) (f : Row S T) (w : core.Slots) → AreAlike loud f.rest f.slots w → f.round ≡ round.Closed → next_redo f.slots ≡ Some i
    → list_all has_answer (take (i - 1) f.slots) ≡ true → AreStoredBehind i f.slots w
    → AreAlike loud r (resumed i r f).slots (redo_from r w) × IsRound (resumed i r f).round r (resumed i r f).slots core_round.Later (redo_from r w)
redone-row loud r i f w h c e a b =
    let m : i + 1 ≡ 1 + i = omega arith in
    subst (λ v. AreAlike loud r v.slots (redo_from r w) × IsRound v.round r v.slots core_round.Later (redo_from r w)) (closed-resumed i r f c)
    (redo-alike loud f.rest r i 1 i f.slots w h e m a b)

pub redos : (S T : Type 0) → RedoLaw S T
redos S T = record { redone = redone-row }
