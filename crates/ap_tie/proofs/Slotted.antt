-- Events of slots.
use Rattle.std.proofs.Common.{◌≡◌, ℕ, zero, suc, ◌-◌, List, [], ◌∷◌, Some, ap, sym, ◌∙◌, subst}
use Rattle.std.proofs.lemmas.Option.{none-some}
use Rattle.ap_term.specs.Tree.{Tree, Trees, none, more}
use Rattle.ap_term.specs.Search.{State}
use Rattle.ap_core.specs.declared.events.Kind.{Kind}
use Rattle.ap_core.specs.declared.tasks.Round.{Round as CoreRound}
use Rattle.ap_core.specs.Tasks as core
use Rattle.ap_core.specs.Tasks.{task, Alternatives, alternative, state, frame}
use Rattle.ap_core.specs.Relation.{Rules, Recorded, at_slot, in_task, in_alternatives, in_slots, mapped}
use Rattle.ap_core.proofs.Options.{Some-mapped}
use Rattle.ap_frames.specs.declared.frame.Round.TheVariants as round
use Rattle.ap_instr.specs.Code.{Compiled}
use Rattle.ap_tracked.specs.Tracked.{Tracked, untracked}
use Rattle.ap_tie.specs.Shows.{before}
use Rattle.ap_tie.specs.Sections.{Row, section, Stack, bottom, parcall, Slots, no_slot, slot, Held}
use Rattle.ap_tie.specs.Tied.{round_of, HoldsStack, HoldsSlots}
use Rattle.ap_tie.specs.Slots.{put_in, put_stack, place_in, slot_of, rest_of, FitsSlot, SlotLaw}

slots_put : (code : Compiled) (p : Rules) (k : Kind) (e : Row) (a : Held) (q r b d : ℕ) (gs : Trees) (w : Slots) (v v' : core.Slots) (i : ℕ)
    → HoldsSlots code p q b gs w v → in_slots p k i [] r d v ≡ Some v'
    → ((g : Tree) (x y : Recorded) → place_in i v ≡ Some (g, x) → at_slot p k r d g x.0 x.1 ≡ Some y → FitsSlot code p q b g e a y.1)
    → HoldsSlots code p q b gs (put_in i e a w) v'
slots_put code p k e a q r b d none no_slot v v' i h n fits = absurd (none-some _ (sym (ap (in_slots p k i [] r d) h) ∙ n))
slots_put code p k e a q r b d none (slot x j w) v v' i h n fits = absurd h
slots_put code p k e a q r b d (more g gs) no_slot v v' i h n fits = absurd h
slots_put code p k e a q r b d (more g gs) (slot x j w) v v' zero (o, y, u, l, rest, z) n fits = absurd (none-some _ (sym (ap (in_slots p k 0 [] r d) z) ∙ n))
slots_put code p k e a q r b d (more g gs) (slot x j w) v v' (suc zero) (o, y, u, l, rest, z) n fits =
    let s = Some-mapped (λ (c : Recorded). core.slot g c.0 c.1 u) (at_slot p k r d g o y) v' (sym (ap (in_slots p k 1 [] r d) z) ∙ n) in
    (s.0.0, s.0.1, u, fits g (o, y) s.0 (ap (place_in 1) z) s.1.0, rest, sym s.1.1)
slots_put code p k e a q r b d (more g gs) (slot x j w) v v' (suc (suc i)) (o, y, u, l, rest, z) n fits =
    let s = Some-mapped (core.slot g o y) (in_slots p k (suc i) [] r d u) v' (sym (ap (in_slots p k (suc (suc i)) [] r d) z) ∙ n) in
    (o, y, s.0, l, slots_put code p k e a q r b d gs w u s.0 (suc i) rest s.1.0 (λ c m c' f. fits c m c' (ap (place_in (suc (suc i))) z ∙ f)), sym s.1.1)

-- the frame that comes first, whose round is open
open_put : (code : Compiled) (p : Rules) (k : Kind) (e : Row) (a : Held) (q r b : ℕ) (gs : Trees) (w : Slots) (v : core.Slots) (i : ℕ) (s : State) (rd : CoreRound) (l l' : Alternatives)
    → HoldsSlots code p q b gs w v → mapped (λ x. alternative x l) (mapped (frame s rd) (in_slots p k i [] r b v)) ≡ Some l'
    → ((g : Tree) (x y : Recorded) → place_in i v ≡ Some (g, x) → at_slot p k r b g x.0 x.1 ≡ Some y → FitsSlot code p q b g e a y.1)
    → (v' : core.Slots) × HoldsSlots code p q b gs (put_in i e a w) v' × (l' ≡ alternative (frame s rd v') l)
open_put code p k e a q r b gs w v i s rd l l' h n fits =
    let x = Some-mapped (λ x. alternative x l) (mapped (frame s rd) (in_slots p k i [] r b v)) l' n in
    let c = Some-mapped (frame s rd) (in_slots p k i [] r b v) x.0 x.1.0 in
    (c.0, slots_put code p k e a q r b b gs w v c.0 i h c.1.0 fits, sym x.1.1 ∙ ap (λ y. alternative y l) (sym c.1.1))

stack_put : (code : Compiled) (p : Rules) (o : Tracked) (k : Kind) (e : Row) (a : Held) (roots : List ℕ) (r c : ℕ) (st : Stack) (l l' : Alternatives) (i : ℕ)
    → HoldsStack code p o roots r st l → in_alternatives p k i [] r l ≡ Some l'
    → ((b : ℕ) (g : Tree) (x y : Recorded) → slot_of i (task r c l) ≡ Some (b, (g, x)) → at_slot p k r b g x.0 x.1 ≡ Some y → FitsSlot code p r b g e a y.1)
    → HoldsStack code p o roots r (put_stack i e a st) l'
stack_put code p o k e a roots r c bottom l l' i h n fits = absurd (none-some _ (sym (ap (in_alternatives p k i [] r) h) ∙ n))
stack_put code p o k e a roots r c (parcall x q round.First w qs st) l l' i (s, y, v, ss, us, m, h0, h1, hs, h2, h3, h4, h5, z) n fits =
    let g = open_put code p k e a q r s.next (_) w v i (untracked s) (round_of round.First) (before us m) l' h2 (sym (ap (in_alternatives p k i [] r) z) ∙ n)
    (λ g y y' d f. subst (λ j. FitsSlot code p j s.next g e a y'.1) (sym h1) (fits s.next g y y' (ap (λ j. slot_of i (task r c j)) z ∙ ap (mapped (λ j. (s.next, j))) d) f)) in
    (s, y, g.0, ss, us, m, h0, h1, tt, g.1, h3, h4, h5, g.2)
stack_put code p o k e a roots r c (parcall x q (round.Draining b) w qs st) l l' i (s, y, v, ss, us, m, h0, h1, hs, h2, h3, h4, h5, z) n fits =
    let g = open_put code p k e a q r s.next (_) w v i (untracked s) (round_of (round.Draining b)) (before us m) l' h2 (sym (ap (in_alternatives p k i [] r) z) ∙ n)
    (λ g y y' d f. subst (λ j. FitsSlot code p j s.next g e a y'.1) (sym h1) (fits s.next g y y' (ap (λ j. slot_of i (task r c j)) z ∙ ap (mapped (λ j. (s.next, j))) d) f)) in
    (s, y, g.0, ss, us, m, h0, h1, tt, g.1, h3, h4, h5, g.2)
stack_put code p o k e a roots r c (parcall x q (round.Later b) w qs st) l l' i (s, y, v, ss, us, m, h0, h1, hs, h2, h3, h4, h5, z) n fits =
    let g = open_put code p k e a q r s.next (_) w v i (untracked s) (round_of (round.Later b)) (before us m) l' h2 (sym (ap (in_alternatives p k i [] r) z) ∙ n)
    (λ g y y' d f. subst (λ j. FitsSlot code p j s.next g e a y'.1) (sym h1) (fits s.next g y y' (ap (λ j. slot_of i (task r c j)) z ∙ ap (mapped (λ j. (s.next, j))) d) f)) in
    (s, y, g.0, ss, us, m, h0, h1, tt, g.1, h3, h4, h5, g.2)
stack_put code p o k e a roots r c (parcall x q round.Closed w qs st) l l' i (s, y, v, ss, us, m, h0, h1, hs, h2, h3, h4, h5, z) n fits =
    absurd (none-some _ (sym (ap (in_alternatives p k i [] r) z) ∙ n))

pub put : SlotLaw
put code p o (section m c b st) i t u k e a (ss, [], l, h0, h1, h2, z) n fits =
    let x = Some-mapped (task (b - c) c) (in_alternatives p k i [] (b - c) l) u (sym (ap (in_task p k i []) z) ∙ n) in (
      ss,
      [],
      x.0,
      h0,
      h1,
      stack_put code p o k e a m.roots (b - c) c st l x.0 i h2 x.1.0
          (λ d g y y' f j. subst (λ r. FitsSlot code p r d g e a y'.1) (ap rest_of z) (fits d g y y' (ap (slot_of i) z ∙ f) (subst (λ r. at_slot p k r d g y.0 y.1 ≡ Some y') (sym (ap rest_of z)) j))),
      sym x.1.1,
    )
put code p o (section m c b st) i t u k e a (ss, state s ∷ xs, l, h0, h1, h2, z) n fits = absurd (none-some _ (sym (ap (in_task p k i []) z) ∙ n))
put code p o (section m c b st) i t u k e a ([], frame s rd w ∷ xs, l, h0, h1, h2, z) n fits = absurd h1
put code p o (section m c b st) i t u k e a (y ∷ ss, frame s rd w ∷ xs, l, h0, h1, h2, z) n fits = absurd h1.0
