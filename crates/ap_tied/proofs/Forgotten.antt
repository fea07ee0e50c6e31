-- The slots of a new frame, whose goals' answers aren't kept.
use Rattle.std.proofs.Common.{◌≡◌, ℕ, zero, suc, ◌+◌, ◌<◌, false, List, [], ◌∷◌, Some, refl, ap, sym, ◌∙◌, arith}
use Rattle.std.specs.Prelude.{length, option_and_then}
use Rattle.ap_term.specs.Tree.{Tree, Trees, none, more, count_trees}
use Rattle.ap_term.specs.Search.{State}
use Rattle.ap_core.specs.declared.tasks.Idle.TheVariants as idles
use Rattle.ap_core.specs.declared.tasks.Round.TheVariants.{First}
use Rattle.ap_core.specs.declared.events.Kind.TheVariants.{Forget}
use Rattle.ap_core.specs.Tasks as core
use Rattle.ap_core.specs.Tasks.{Task, task, Alternatives, alternative, frame, idle}
use Rattle.ap_core.specs.Relation.{Rules, ready, mapped, in_slots, in_task}
use Rattle.ap_core.specs.Reached.{Happening}
use Rattle.ap_instr.specs.Code.{Compiled}
use Rattle.ap_tie.specs.Sections.{rows}
use Rattle.ap_tie.specs.Tied.{HoldsSlots}
use Rattle.ap_tied.specs.Happened.{happened}
use Rattle.ap_tied.specs.Ties.{SlotsAreSimple, AreQuietSlots, ready_slots}

-- of the first n slots
abbrev unkept : ℕ → Trees → core.Slots
unkept zero gs = ready gs
unkept (suc n) none = core.no_slot
unkept (suc n) (more g gs) = core.slot g false (idle idles.Ready) (unkept n gs)

-- of all
abbrev pub all_unkept : Trees → core.Slots
all_unkept none = core.no_slot
all_unkept (more g gs) = core.slot g false (idle idles.Ready) (all_unkept gs)

unkept-all : (gs : Trees) (n : ℕ) → n ≡ count_trees gs → unkept n gs ≡ all_unkept gs
unkept-all none zero h = refl
unkept-all none (suc n) h = absurd (omega (arith, h))
unkept-all (more g gs) zero h = absurd (omega (arith, h))
unkept-all (more g gs) (suc n) h = ap (core.slot g false (idle idles.Ready)) (unkept-all gs n (omega (arith, h)))

-- the answers of slot n + 1 aren't kept any more
forget-slot : (p : Rules) (r b n : ℕ) (gs : Trees) → n < count_trees gs → in_slots p Forget (suc n) [] r b (unkept n gs) ≡ Some (unkept (suc n) gs)
forget-slot p r b n none h = absurd (omega (arith, h))
forget-slot p r b zero (more g gs) h = refl
forget-slot p r b (suc n) (more g gs) h = ap (mapped (core.slot g false (idle idles.Ready))) (forget-slot p r b n gs (omega (arith, h)))

-- so many slots behind the first n
abbrev forgets : ℕ → ℕ → List Happening
forgets n zero = []
forgets n (suc k) = (Forget, suc n ∷ []) ∷ forgets (suc n) k

abbrev opened : ℕ → ℕ → State → ℕ → Trees → Alternatives → Task
opened r c s n gs l = task r c (alternative (frame s First (unkept n gs)) l)

forgotten : (p : Rules) (r c : ℕ) (s : State) (gs : Trees) (l : Alternatives) (k n : ℕ) → n + k ≡ count_trees gs → happened p (forgets n k) (opened r c s n gs l) ≡ Some (opened r c s (count_trees gs) gs l)
forgotten p r c s gs l zero n h = let d : n ≡ count_trees gs = omega (arith, h) in ap (λ j. Some (opened r c s j gs l)) d
forgotten p r c s gs l (suc k) n h =
    let event : in_task p Forget (suc n) [] (opened r c s n gs l) ≡ Some (opened r c s (suc n) gs l) =
    ap (λ o. mapped (task r c) (mapped (λ a. alternative a l) (mapped (frame s First) o))) (forget-slot p r s.next n gs (omega (arith, h))) in
    ap (option_and_then (happened p (forgets (suc n) k))) event ∙ forgotten p r c s gs l k (suc n) (omega (arith, h))

-- the events by which no slot's answers are kept
abbrev pub all_forgets : Trees → List Happening
all_forgets gs = forgets 0 (count_trees gs)

pub forgotten-all : (p : Rules) (r c : ℕ) (s : State) (gs : Trees) (l : Alternatives)
    → happened p (all_forgets gs) (task r c (alternative (frame s First (ready gs)) l)) ≡ Some (task r c (alternative (frame s First (all_unkept gs)) l))
forgotten-all p r c s gs l =
    let d : 0 + count_trees gs ≡ count_trees gs = omega arith in
    forgotten p r c s gs l (count_trees gs) 0 d ∙ ap (λ w. Some (task r c (alternative (frame s First w) l))) (unkept-all gs (count_trees gs) refl)

-- ---- what the slots stand for

pub unkept-held : (code : Compiled) (p : Rules) (q b : ℕ) → ((g : Tree) → p.loud g ≡ false) → (gs : Trees) (n : ℕ) → n ≡ count_trees gs → HoldsSlots code p q b gs (ready_slots n) (all_unkept gs)
unkept-held code p q b quiet none zero h = refl
unkept-held code p q b quiet none (suc n) h = absurd (omega (arith, h))
unkept-held code p q b quiet (more g gs) zero h = absurd (omega (arith, h))
unkept-held code p q b quiet (more g gs) (suc n) h = (false, idle idles.Ready, all_unkept gs, (sym (quiet g), refl, tt), unkept-held code p q b quiet gs n (omega (arith, h)), refl)

pub unkept-simple : (gs : Trees) → SlotsAreSimple (all_unkept gs)
unkept-simple none = tt
unkept-simple (more g gs) = (refl, tt, unkept-simple gs)

pub ready-quiet : (code : Compiled) (n : ℕ) → AreQuietSlots code (ready_slots n)
ready-quiet code zero = tt
ready-quiet code (suc n) = (refl, refl, refl, ready-quiet code n)

pub ready-many : (n : ℕ) → length (rows (ready_slots n)) ≡ n
ready-many zero = refl
ready-many (suc n) = ap suc (ready-many n)
