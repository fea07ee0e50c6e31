-- Events of a slot whose goal may go on, from those of its task.
use Rattle.std.specs.Prelude.{Result, Ok, Err, MatchResult, MatchOption}
use Rattle.std.proofs.Common.{◌≡◌, ℕ, Bool, true, false, if◌then◌else◌, List, Option, Some, None, refl, ap, sym, ◌∙◌, subst}
use Rattle.ap_core.specs.declared.events.StepErr.{StepErr}
use Rattle.ap_core.specs.declared.events.StepErr.TheVariants.{Illegal, NoMemory}
use Rattle.ap_core.specs.Relation.{Rules, mapped, in_slots}
use Rattle.ap_core.specs.Outcome.{IsRefusal, with_answer, in_place, below_slot}
use Rattle.std.proofs.Common.{◌+◌, ◌<◌, length, get_or, set, ◌∷◌, [], zero, suc, ◌-◌, ◌≤◌, take, drop, arith}
use Rattle.ap_core.specs.declared.events.Kind.{Kind}
use Rattle.ap_core.specs.declared.tasks.Answer.{Answer as CodeAnswer}
use Rattle.ap_core.specs.declared.tasks.Slot.{Slot}
use Rattle.ap_core.specs.Tasks.{Answer, Task, Progress}
use Rattle.ap_core.specs.TaskView.{Place, answer_of, slot_view, slots_view}
use Rattle.ap_core.proofs.SlotLoops.{in_slots_set, in_slots_none, set_same, in_place-below}

mapped_some : {A B : Type 0} (f : A → B) (b : Bool) (o : Option A) (x : A) (y : B) → y ≡ f x → (if b then o else None) ≡ Some x → (if b then mapped f o else None) ≡ Some y
mapped_some f true o x y e h = ap (mapped f) h ∙ ap Some (sym e)
mapped_some f false o x y e h = absurd (cc)

mapped_none : {A B : Type 0} (f : A → B) (b : Bool) (o : Option A) → (if b then o else None) ≡ None → (if b then mapped f o else None) ≡ None
mapped_none f true o h = ap (mapped f) h
mapped_none f false o h = refl

refused : {A B : Type 0} (f : A → B) (b : Bool) (o : Option A) (e : StepErr) (old new : A) (before after : B) → before ≡ f old → after ≡ f new → IsRefusal e (if b then o else None) old new → IsRefusal e (if b then mapped f o else None) before after
refused f b o Illegal old new before after i j h = (mapped_none f b o h.0, j ∙ ap f h.1 ∙ sym i)
refused f b o NoMemory old new before after i j h = j ∙ ap f h ∙ sym i

-- a call that makes the event of a part makes that of the whole
pub of_part : {U A B : Type 0} (f : A → B) (b : Bool) (o : Option A) (whole : Option B) (r : Result U StepErr) (old new : A) (before after : B)
    → whole ≡ (if b then mapped f o else None) → before ≡ f old → after ≡ f new
    → MatchResult r (λ _. (if b then o else None) ≡ Some new) (λ e. IsRefusal e (if b then o else None) old new)
    → MatchResult r (λ _. whole ≡ Some after) (λ e. IsRefusal e whole before after)
of_part f b o whole (Ok u) old new before after w i j h = w ∙ mapped_some f b o new after j h
of_part f b o whole (Err e) old new before after w i j h =
    subst (λ x. IsRefusal e x before after) (sym w) (refused f b o e old new before after i j h)

-- an answer that a task gives is the slot's
pub of_answer : (f : Answer × Task → Progress) (g : Task → Progress) (b : Bool) (o : Option (Answer × Task)) (whole : Option Progress) (r : Option CodeAnswer) (old new : Task) (before after : Progress)
    → whole ≡ (if b then mapped f o else None) → before ≡ g old → after ≡ g new → ((a : Answer) → with_answer a (g new) ≡ f (a, new))
    → MatchOption r (((if b then o else None) ≡ None) × (new ≡ old)) (λ a. (if b then o else None) ≡ Some (answer_of a, new))
    → MatchOption r ((whole ≡ None) × (after ≡ before)) (λ a. whole ≡ Some (with_answer (answer_of a) after))
of_answer f g b o whole None old new before after w i j k h = (w ∙ mapped_none f b o h.0, j ∙ ap g h.1 ∙ sym i)
of_answer f g b o whole (Some a) old new before after w i j k h = w ∙ mapped_some f b o (answer_of a, new) (with_answer (answer_of a) after) (ap (with_answer (answer_of a)) j ∙ k (answer_of a)) h

-- an event in a slot's place is one of the slots
pub of_slot : {U : Type 0} (r : Result U StepErr) (p : Rules) (k : Kind) (path : List ℕ) (rest b : ℕ) (xs : List Slot) (i place : ℕ) (v d : Slot) → place ≡ i + 1 → i < length xs
    → MatchResult r (λ _. in_place p k path rest b (slot_view (get_or xs i d)) ≡ Some (slot_view v)) (λ e. IsRefusal e (in_place p k path rest b (slot_view (get_or xs i d))) (slot_view (get_or xs i d)) (slot_view v))
    → MatchResult r (λ _. in_slots p k place path rest b (slots_view xs) ≡ Some (slots_view (set xs i v))) (λ e. IsRefusal e (in_slots p k place path rest b (slots_view xs)) (slots_view xs) (slots_view (set xs i v)))
of_slot (Ok u) p k path rest b xs i place v d e l h = ap (λ n. in_slots p k n path rest b (slots_view xs)) e ∙ in_slots_set p k i path rest b xs d v l h
of_slot (Err Illegal) p k path rest b xs i place v d e l h =
    (ap (λ n. in_slots p k n path rest b (slots_view xs)) e ∙ in_slots_none p k i path rest b xs d l h.0, set_same i xs d v l h.1)
of_slot (Err NoMemory) p k path rest b xs i place v d e l h = set_same i xs d v l h

-- the same of a slot x that was read there
pub of_slot_read : {U : Type 0} (r : Result U StepErr) (p : Rules) (k : Kind) (path : List ℕ) (rest b : ℕ) (xs : List Slot) (i place : ℕ) (v d x : Slot) → x ≡ get_or xs i d → place ≡ i + 1 → i < length xs
    → MatchResult r (λ _. in_place p k path rest b (slot_view x) ≡ Some (slot_view v)) (λ e. IsRefusal e (in_place p k path rest b (slot_view x)) (slot_view x) (slot_view v))
    → MatchResult r (λ _. in_slots p k place path rest b (slots_view xs) ≡ Some (slots_view (set xs i v))) (λ e. IsRefusal e (in_slots p k place path rest b (slots_view xs)) (slots_view xs) (slots_view (set xs i v)))
of_slot_read r p k path rest b xs i place v d x q e l h =
    of_slot r p k path rest b xs i place v d e l
    (subst (λ y. MatchResult r (λ _. in_place p k path rest b (slot_view y) ≡ Some (slot_view v)) (λ f. IsRefusal f (in_place p k path rest b (slot_view y)) (slot_view y) (slot_view v))) q h)

-- an event below a slot is one of its progress
pub of_progress : {U : Type 0} (r : Result U StepErr) (p : Rules) (k : Kind) (path : List ℕ) (j : ℕ) (others : List ℕ) (rest b : ℕ) (z v : Place) (x y : Progress) → path ≡ j ∷ others → z ≡ (z.0, z.1, x) → v ≡ (z.0, z.1, y)
    → MatchResult r (λ _. below_slot p k j others x ≡ Some y) (λ e. IsRefusal e (below_slot p k j others x) x y)
    → MatchResult r (λ _. in_place p k path rest b z ≡ Some v) (λ e. IsRefusal e (in_place p k path rest b z) z v)
of_progress r p k path j others rest b z v x y q i m h =
    of_part {A = Progress} {B = Place} (λ u. (z.0, z.1, u)) true (below_slot p k j others x) (in_place p k path rest b z) r x y z v
    (ap (λ l. in_place p k l rest b z) q ∙ ap (λ w. in_place p k (j ∷ others) rest b w) i ∙ in_place-below p k j others rest b (z.0, z.1, x)) i m h

-- a path with a step, read as that step and those behind it
pub first_step : (path : List ℕ) → 1 ≤ length path → path ≡ get_or path 0 0 ∷ take (length path - 1) (drop 1 path)
first_step [] h = absurd (omega arith)
first_step (j ∷ path) h = ap (λ l. j ∷ l) (sym (whole path (length (j ∷ path) - 1) (omega arith)))
  where
    whole : (l : List ℕ) (n : ℕ) → n ≡ length l → take n l ≡ l
    whole [] zero e = refl
    whole [] (suc n) e = refl
    whole (i ∷ l) zero e = absurd (omega arith)
    whole (i ∷ l) (suc n) e = ap (λ m. i ∷ m) (whole l n (omega arith))
