-- Events at one slot leave the others as they are.
use Rattle.std.proofs.Common.{◌≡◌, ℕ, zero, suc, Bool, ◌&&◌, List, [], ◌∷◌, Option, Some, None, option_and_then, if◌then◌else◌, refl, ap, ◌∙◌, subst}
use Rattle.std.proofs.lemmas.Option.{none-some, same_Some}
use Rattle.ap_term.specs.Tree.{Tree}
use Rattle.ap_core.specs.declared.events.Kind.{Kind}
use Rattle.ap_core.specs.declared.events.Kind.TheVariants as kinds
use Rattle.ap_core.specs.declared.tasks.Idle.TheVariants.{Ready, Waiting, GivenBack}
use Rattle.ap_core.specs.Tasks as core
use Rattle.ap_core.specs.Tasks.{Task, task, exhausted, alternative, state, frame}
use Rattle.ap_core.specs.Conditions.{is_open, some_is_again}
use Rattle.ap_core.specs.Relation.{Rules, Recorded, own, readied, each_slot, in_task, in_alternatives, in_alternative, in_slots, in_slot, mapped}
use Rattle.ap_core.specs.Reached.{Happening}
use Rattle.ap_core.specs.Lifting.{running_in, running_task}
use Rattle.ap_core.proofs.Options.{Some-if, Some-mapped, Some-only_if}
use Rattle.ap_tracked.specs.Tracked.{Tracked}
use Rattle.ap_tie.specs.Open.{origin_in}
use Rattle.ap_tied.specs.Happened.{happened}
use Rattle.ap_tied.specs.SlotCalls.{since_in, RunsSlot}
use Rattle.ap_open.proofs.Lifting.{through}

-- slot j is the same in both
record SameIn (j b : ℕ) (v w : core.Slots) : Type 0 where
  runs : running_in j v ≡ running_in j w
  origin : origin_in j b v ≡ origin_in j b w
  before : since_in j v ≡ since_in j w

-- the first slot is another one, or those behind it
head_other : (j b : ℕ) (g : Tree) (o l : Bool) (x y : core.Progress) (w : core.Slots) → (j ≡ 1 → ⊥) → SameIn j b (core.slot g o x w) (core.slot g l y w)
head_other zero b g o l x y w h = record { runs = refl; origin = refl; before = refl }
head_other (suc zero) b g o l x y w h = absurd (h refl)
head_other (suc (suc j)) b g o l x y w h = record { runs = refl; origin = refl; before = refl }

behind_other : (j b : ℕ) (g : Tree) (o : Bool) (x : core.Progress) (v w : core.Slots) → ((k : ℕ) → j ≡ suc k → SameIn k b v w) → SameIn j b (core.slot g o x v) (core.slot g o x w)
behind_other zero b g o x v w h = record { runs = refl; origin = refl; before = refl }
behind_other (suc zero) b g o x v w h = record { runs = refl; origin = refl; before = refl }
behind_other (suc (suc j)) b g o x v w h = let k = h (suc j) refl in record { runs = k.runs; origin = k.origin; before = k.before }

others_in : (p : Rules) (k : Kind) (path : List ℕ) (r b i j : ℕ) (w v : core.Slots) → (j ≡ i → ⊥) → in_slots p k i path r b w ≡ Some v → SameIn j b v w
others_in p k path r b i j core.no_slot v n h = absurd (none-some _ h)
others_in p k path r b zero j (core.slot g o x w) v n h = absurd (none-some _ h)
others_in p k path r b (suc zero) j (core.slot g o x w) v n h =
    let y = Some-mapped (λ (c : Recorded). core.slot g c.0 c.1 w) (in_slot p k path r b g o x) v h in
    subst (λ u. SameIn j b u (core.slot g o x w)) y.1.1 (head_other j b g y.0.0 o y.0.1 x w n)
others_in p k path r b (suc (suc i)) j (core.slot g o x w) v n h =
    let y = Some-mapped (core.slot g o x) (in_slots p k (suc i) path r b w) v h in
    subst (λ u. SameIn j b u (core.slot g o x w)) y.1.1
    (behind_other j b g o x y.0 w (λ m e. others_in p k path r b (suc i) m w y.0 (λ z. n (e ∙ ap suc z)) y.1.0))

pub others_one : (p : Rules) (k : Kind) (path : List ℕ) (i j : ℕ) (t u z : Task) (n : Tracked) (d : ℕ) → (j ≡ i → ⊥) → in_task p k i path t ≡ Some u → RunsSlot j t n d z → RunsSlot j u n d z
others_one p k path i j (task r c exhausted) u z n d apart h is = absurd (none-some _ is.runs)
others_one p k path i j (task r c (alternative (state s) l)) u z n d apart h is = absurd (none-some _ is.runs)
others_one p k path i j (task r c (alternative (frame s rd w) l)) u z n d apart h is =
    let a = Some-mapped (task r c) (in_alternatives p k i path r (alternative (frame s rd w) l)) u h in
    let b = Some-mapped (λ x. alternative x l) (in_alternative p k i path r (frame s rd w)) a.0 a.1.0 in
    let e = Some-if (is_open rd) (mapped (frame s rd) (in_slots p k i path r s.next w)) b.0 b.1.0 in
    let v = Some-mapped (frame s rd) (in_slots p k i path r s.next w) b.0 e.1 in
    let same : task r c (alternative (frame s rd v.0) l) ≡ u = ap (λ x. task r c (alternative x l)) v.1.1 ∙ ap (task r c) b.1.1 ∙ a.1.1 in
    let o = others_in p k path r s.next i j w v.0 apart v.1.0 in
    let runs = Some-if (is_open rd) (running_in j w) z is.runs in
    subst (λ y. RunsSlot j y n d z) same
    (record { runs = ap (λ x. if is_open rd then x else None) o.runs ∙ is.runs; origin = o.origin ∙ is.origin; before = o.before ∙ is.before })

pub others_all : (p : Rules) (i j : ℕ) (es : List Happening) (t u z : Task) (n : Tracked) (d : ℕ) → (j ≡ i → ⊥) → happened p (through i es) t ≡ Some u → RunsSlot j t n d z → RunsSlot j u n d z
others_all p i j [] t u z n d apart h is = subst (λ y. RunsSlot j y n d z) (same_Some _ _ h) is
others_all p i j (e ∷ es) t u z n d apart h is = go (in_task p e.0 i e.1 t) refl h (others_all p i j es)
  where
    go : (x : Option Task) → in_task p e.0 i e.1 t ≡ x → option_and_then (happened p (through i es)) x ≡ Some u
        → ((t u z : Task) (n : Tracked) (d : ℕ) → (j ≡ i → ⊥) → happened p (through i es) t ≡ Some u → RunsSlot j t n d z → RunsSlot j u n d z) → RunsSlot j u n d z
    go None same h rec = absurd (none-some _ h)
    go (Some x) same h rec = rec x u z n d apart h (others_one p e.0 e.1 i j t x z n d apart same is)

-- ---- events of the task itself

-- where the others begin anew, slots that run stay
readied_stays : (j b : ℕ) (w : core.Slots) → SameIn j b (each_slot readied w) w
readied_stays j b core.no_slot = record { runs = refl; origin = refl; before = refl }
readied_stays zero b (core.slot g k x w) = record { runs = refl; origin = refl; before = refl }
readied_stays (suc zero) b (core.slot g k (core.idle Ready) w) = record { runs = refl; origin = refl; before = refl }
readied_stays (suc zero) b (core.slot g k (core.idle Waiting) w) = record { runs = refl; origin = refl; before = refl }
readied_stays (suc zero) b (core.slot g k (core.idle GivenBack) w) = record { runs = refl; origin = refl; before = refl }
readied_stays (suc zero) b (core.slot g k (core.stored m) w) = record { runs = refl; origin = refl; before = refl }
readied_stays (suc zero) b (core.slot g k (core.busy x t) w) = record { runs = refl; origin = refl; before = refl }
readied_stays (suc zero) b (core.slot g k (core.held m a t c) w) = record { runs = refl; origin = refl; before = refl }
readied_stays (suc zero) b (core.slot g k (core.redone m x t i) w) = record { runs = refl; origin = refl; before = refl }
readied_stays (suc zero) b (core.slot g k (core.again m a t c) w) = record { runs = refl; origin = refl; before = refl }
readied_stays (suc zero) b (core.slot g k (core.drained m x t i e) w) = record { runs = refl; origin = refl; before = refl }
readied_stays (suc (suc j)) b (core.slot g k x w) = let r = readied_stays (suc j) b w in record { runs = r.runs; origin = r.origin; before = r.before }

pub restart_stays : (p : Rules) (j : ℕ) (t u z : Task) (n : Tracked) (d : ℕ) → own p kinds.Restart t ≡ Some u → RunsSlot j t n d z → RunsSlot j u n d z
restart_stays p j (task r c exhausted) u z n d h is = absurd (none-some _ is.runs)
restart_stays p j (task r c (alternative (state s) l)) u z n d h is = absurd (none-some _ is.runs)
restart_stays p j (task r c (alternative (frame s rd w) l)) u z n d h is =
    let e = Some-only_if (is_open rd && some_is_again w) (task r c (alternative (frame s rd (each_slot readied w)) l)) u h in
    let o = readied_stays j s.next w in
    subst (λ y. RunsSlot j y n d z) e.1
    (record { runs = ap (λ x. if is_open rd then x else None) o.runs ∙ is.runs; origin = o.origin ∙ is.origin; before = o.before ∙ is.before })

-- ---- a slot that begins runs no task before

start_in : (p : Rules) (r b i : ℕ) (w v : core.Slots) (z : Task) → in_slots p kinds.Start i [] r b w ≡ Some v → running_in i w ≡ Some z → ⊥
start_in p r b i core.no_slot v z h k = none-some _ h
start_in p r b zero (core.slot g o x w) v z h k = none-some _ h
start_in p r b (suc zero) (core.slot g o (core.idle j) w) v z h k = none-some _ k
start_in p r b (suc zero) (core.slot g o (core.stored m) w) v z h k = none-some _ k
start_in p r b (suc zero) (core.slot g o (core.busy x t) w) v z h k = none-some _ h
start_in p r b (suc zero) (core.slot g o (core.held m a t c) w) v z h k = none-some _ k
start_in p r b (suc zero) (core.slot g o (core.redone m x t j) w) v z h k = none-some _ h
start_in p r b (suc zero) (core.slot g o (core.again m a t c) w) v z h k = none-some _ k
start_in p r b (suc zero) (core.slot g o (core.drained m x t j e) w) v z h k = none-some _ h
start_in p r b (suc (suc i)) (core.slot g o x w) v z h k = let y = Some-mapped (core.slot g o x) (in_slots p kinds.Start (suc i) [] r b w) v h in start_in p r b (suc i) w y.0 z y.1.0 k

pub start_idle : (p : Rules) (i : ℕ) (t u z : Task) → in_task p kinds.Start i [] t ≡ Some u → running_task i t ≡ Some z → ⊥
start_idle p i (task r c exhausted) u z h k = none-some _ k
start_idle p i (task r c (alternative (state s) l)) u z h k = none-some _ k
start_idle p i (task r c (alternative (frame s rd w) l)) u z h k =
    let a = Some-mapped (task r c) (in_alternatives p kinds.Start i [] r (alternative (frame s rd w) l)) u h in
    let b = Some-mapped (λ x. alternative x l) (in_alternative p kinds.Start i [] r (frame s rd w)) a.0 a.1.0 in
    let e = Some-if (is_open rd) (mapped (frame s rd) (in_slots p kinds.Start i [] r s.next w)) b.0 b.1.0 in
    let v = Some-mapped (frame s rd) (in_slots p kinds.Start i [] r s.next w) b.0 e.1 in
    start_in p r s.next i w v.0 z v.1.0 (Some-if (is_open rd) (running_in i w) z k).1
