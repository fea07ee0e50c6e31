-- The slots behind a redone one that has answered are replayed.
use Rattle.std.proofs.Common.{◌≡◌, ℕ, suc, ◌+◌, ◌-◌, ◌<◌, ◌≤◌, inl, inr, Bool, true, false, ◌&&◌, nat_lt, if◌then◌else◌, List, [], ◌∷◌, length, take, refl, ap, sym, ◌∙◌, subst, arith}
use Rattle.std.specs.List.{list_all}
use Rattle.std.proofs.lemmas.Bool.{false≢true, ltb-true, ltb-false, and_parts}
use Rattle.ap_term.specs.Tree.{Tree}
use Rattle.ap_core.specs.Tasks as core
use Rattle.ap_core.specs.Tasks.{Answer, Task, no_slot, slot, Progress, idle, stored, busy, held, redone, again, drained}
use Rattle.ap_core.specs.Relation as relation
use Rattle.ap_core.specs.Relation.{each_slot}
use Rattle.ap_frames.specs.declared.slots.Slot.{Slot}
use Rattle.ap_frames.specs.declared.slots.Stand.{Stand}
use Rattle.ap_frames.specs.declared.slots.Stand.TheVariants.{Ready, Waiting, Running, Answered, Replayed, Ended, GivenBack}
use Rattle.ap_frames.specs.declared.slots.Run.TheVariants.{First, Redone, Drained}
use Rattle.ap_frames.specs.declared.slots.Ending.{Ending}
use Rattle.ap_frames.specs.Slots.{stands_answered, has_answer, tuples_of}
use Rattle.ap_frames.specs.Rounds.{numbered, behind, replayed, replayed_stand}
use Rattle.ap_parcall_laws.specs.Alike.{AreAlike, StandsAs, HasAnswer, EndsAs}
use Rattle.ap_parcall_laws.specs.Laws.{ReplayLaw}

answer-stays : (t : Task) (c : ℕ) (y : Progress) → HasAnswer t c y → HasAnswer t c (relation.replayed y)
answer-stays t c y (m, a, inl p) = (m, a, inl (ap relation.replayed p))
answer-stays t c y (m, a, inr p) = (m, a, inr (ap relation.replayed p))

stays-answered : {S : Type 0} (r : ℕ) (s : Stand S) (n : ℕ) (y : Progress) → stands_answered s ≡ true → StandsAs r s n y → StandsAs r s n (relation.replayed y)
stays-answered r Ready n y a h = absurd (false≢true a)
stays-answered r Waiting n y a h = absurd (false≢true a)
stays-answered r (Running b) n y a h = absurd (false≢true a)
stays-answered r (Answered z) n y a (t, h, l) = (t, answer-stays t z.cost y h, l)
stays-answered r (Replayed k) n y a (e, c, rest, h, l) = (e, c, rest, answer-stays _ 0 y h, l)
stays-answered r (Ended e c) n y a h = absurd (false≢true a)
stays-answered r GivenBack n y a h = absurd (false≢true a)

ends-replayed : (r : ℕ) (x : Ending) (c : ℕ) (y : Progress) → EndsAs r x c y → EndsAs r x c (relation.replayed y)
ends-replayed r x c y (inl (t, p, q)) = inl (t, ap relation.replayed p, q)
ends-replayed r x c y (inr (inl (m, t, i, p, q))) = inr (inl (m, t, i, ap relation.replayed p, q))
ends-replayed r x c y (inr (inr (m, t, i, d, p))) = inr (inr (m, t, i, d, ap relation.replayed p))

-- a slot behind the redone one
stands-replayed : {S : Type 0} (r : ℕ) (b : Bool) (s : Stand S) (n : ℕ) (y : Progress) → nat_lt 0 n ≡ b → StandsAs r s n y → StandsAs r (replayed_stand b s) n (relation.replayed y)
stands-replayed r true Ready n y e h = ap relation.replayed h
stands-replayed r false Ready n y e h = ap relation.replayed h
stands-replayed r true Waiting n y e (inl (p, z)) = let k : 0 < n = ltb-true 0 n e in absurd (omega (arith, k, z))
stands-replayed r true Waiting n y e (inr (a, rest, p, z)) = let m : n ≡ (0 + 1) + length rest = omega (arith, z) in (0, 0, rest, ([], a, inl (ap relation.replayed p)), m)
stands-replayed r false Waiting n y e (inl (p, z)) = ap relation.replayed p
stands-replayed r false Waiting n y e (inr (a, rest, p, z)) = let k : n ≤ 0 = ltb-false 0 n e in absurd (omega (arith, k, z))
stands-replayed r true (Running First) n y e (b, t, p, h) = (b, t, ap relation.replayed p, h)
stands-replayed r false (Running First) n y e (b, t, p, h) = (b, t, ap relation.replayed p, h)
stands-replayed r true (Running Redone) n y e (m, b, t, i, p, h) = (m, b, t, i, ap relation.replayed p, h)
stands-replayed r false (Running Redone) n y e (m, b, t, i, p, h) = (m, b, t, i, ap relation.replayed p, h)
stands-replayed r true (Running Drained) n y e (m, b, t, i, d, p, h) = (m, b, t, i, d, ap relation.replayed p, h)
stands-replayed r false (Running Drained) n y e (m, b, t, i, d, p, h) = (m, b, t, i, d, ap relation.replayed p, h)
stands-replayed {S} r true (Answered z) n y e h = stays-answered {S = S} r (Answered z) n y refl h
stands-replayed {S} r false (Answered z) n y e h = stays-answered {S = S} r (Answered z) n y refl h
stands-replayed {S} r true (Replayed k) n y e h = stays-answered {S = S} r (Replayed k) n y refl h
stands-replayed {S} r false (Replayed k) n y e h = stays-answered {S = S} r (Replayed k) n y refl h
stands-replayed r true (Ended x c) n y e h = ends-replayed r x c y h
stands-replayed r false (Ended x c) n y e h = ends-replayed r x c y h
stands-replayed r true GivenBack n y e h = ap relation.replayed h
stands-replayed r false GivenBack n y e h = ap relation.replayed h

replay-alike : {S T : Type 0} (loud : Tree → Bool) (r i n : ℕ) (xs : List (Slot S T)) (w : core.Slots) → AreAlike loud r xs w → list_all has_answer (take ((i + 1) - n) xs) ≡ true
    → AreAlike loud r (numbered (behind replayed i) n xs) (each_slot relation.replayed w)
replay-alike loud r i n [] no_slot h a = tt
replay-alike loud r i n [] (slot g k y w) h a = absurd h
replay-alike loud r i n (x ∷ xs) no_slot h a = absurd h
replay-alike {S} {T} loud r i n (x ∷ xs) (slot g k y w) (l, s, h) a = go (nat_lt i n) refl (λ b. replay-alike loud r i (n + 1) xs w h b)
  where
    go : (c : Bool) → nat_lt i n ≡ c
        → (list_all has_answer (take ((i + 1) - (n + 1)) xs) ≡ true → AreAlike loud r (numbered (behind replayed i) (n + 1) xs) (each_slot relation.replayed w))
        → AreAlike loud r ((if nat_lt i n then replayed x else x) ∷ numbered (behind replayed i) (n + 1) xs) (slot g k (relation.replayed y) (each_slot relation.replayed w))
    go true e rec =
        let m : (i + 1) - (n + 1) ≡ 0 = omega (arith, ltb-true i n e) in
        let b : list_all has_answer (take ((i + 1) - (n + 1)) xs) ≡ true = ap (λ j. list_all has_answer (take j xs)) m in
        subst (λ c. AreAlike loud r ((if c then replayed x else x) ∷ numbered (behind replayed i) (n + 1) xs) (slot g k (relation.replayed y) (each_slot relation.replayed w))) (sym e)
        (l, stands-replayed r (nat_lt 0 (length (tuples_of x))) x.stand (length (tuples_of x)) y refl s, rec b)
    go false e rec =
        let m : (i + 1) - n ≡ suc ((i + 1) - (n + 1)) = omega (arith, ltb-false i n e) in
        let d : (has_answer x && list_all has_answer (take ((i + 1) - (n + 1)) xs)) ≡ true = subst (λ j. list_all has_answer (take j (x ∷ xs)) ≡ true) m a in
        let b = and_parts (has_answer x) (list_all has_answer (take ((i + 1) - (n + 1)) xs)) d in
        subst (λ c. AreAlike loud r ((if c then replayed x else x) ∷ numbered (behind replayed i) (n + 1) xs) (slot g k (relation.replayed y) (each_slot relation.replayed w))) (sym e)
        (l, stays-answered r x.stand (length (tuples_of x)) y b.0 s, rec b.1)

pub replays : (S T : Type 0) → ReplayLaw S T
replays S T = record {
  replayed = λ loud i f w h a. let m : (i + 1) - 1 ≡ i = omega arith in replay-alike loud f.rest i 1 f.slots w h (ap (λ j. list_all has_answer (take j f.slots)) m ∙ a);
}
