-- The slot that is drained, in a list of slots.
use Rattle.std.proofs.Common.{◌≡◌, ℕ, zero, suc, ◌+◌, ◌-◌, ◌<◌, ◌≤◌, List, [], ◌∷◌, length, drop, drop_of_length-le, get_or, set, refl, ap, sym, ◌∙◌, subst, arith}
use Rattle.ap_core.specs.declared.tasks.Slot.{Slot}
use Rattle.ap_core.specs.Tasks.{Slots, no_slot, slot}
use Rattle.ap_core.specs.TaskView.{slot_view, slots_view}
use Rattle.ap_core.specs.Relation.{drained_with, drained_at, cost_of}
use Rattle.ap_core.specs.Rounds.{changed_place, cost_from}
use Rattle.ap_core.proofs.Views.{slots_view-drop_more}
use Rattle.ap_core.proofs.SlotLoops.{set_same}

pub cost_from-here : (e : ℕ) (w : Slots) → cost_from 0 e w ≡ e
cost_from-here e no_slot = refl
cost_from-here e (slot g k x w) = refl

pub cost_here : (i j e : ℕ) (w : Slots) (c : ℕ) → i ≤ j → cost_from (i - j) e w ≡ c → e ≡ c
cost_here i j e w c h k = let z : i - j ≡ 0 = omega arith in sym (cost_from-here e w) ∙ ap (λ n. cost_from n e w) (sym z) ∙ k

pub cost_on : (xs : List Slot) (i j : ℕ) (x : Slot) (e c : ℕ) → j < length xs → x ≡ get_or xs j x → j < i → cost_from (i - j) e (slots_view (drop j xs)) ≡ c
    → cost_from (i - (j + 1)) (e - cost_of (slot_view x).2) (slots_view (drop (j + 1) xs)) ≡ c
cost_on xs i j x e c h q l k =
    let z : i - j ≡ suc (i - (j + 1)) = omega arith in
    sym (ap (λ w. cost_from (i - j) e w) (slots_view-drop_more xs j x h q) ∙ ap (λ n. cost_from n e (slot (slot_view x).0 (slot_view x).1 (slot_view x).2 (slots_view (drop (j + 1) xs)))) z) ∙ k

pub cost_ends : (xs : List Slot) (i j e c : ℕ) → length xs ≤ j → cost_from (i - j) e (slots_view (drop j xs)) ≡ c → e ≡ c
cost_ends xs i j e c h k = sym (ap (λ ys. cost_from (i - j) e (slots_view ys)) (drop_of_length-le xs h)) ∙ k

pub ruleset cost_rows = (cost_here, cost_on, cost_ends)

pub drained_at-set : (x e i : ℕ) (xs : List Slot) (v d : Slot) → i < length xs → slot_view v ≡ changed_place (drained_with x (cost_from i e (slots_view xs))) (slot_view (get_or xs i d))
    → slots_view (set xs i v) ≡ drained_at x e (i + 1) (slots_view xs)
drained_at-set x e i [] v d h q = absurd (omega arith)
drained_at-set x e zero (y ∷ xs) v d h q = ap (λ z. slot z.0 z.1 z.2 (slots_view xs)) q
drained_at-set x e (suc i) (y ∷ xs) v d h q =
    let m : suc i + 1 ≡ suc (suc i) = omega arith in
    let n : i + 1 ≡ suc i = omega arith in
    ap (slot (slot_view y).0 (slot_view y).1 (slot_view y).2) (drained_at-set x (e - cost_of (slot_view y).2) i xs v d (omega arith) q ∙ ap (λ j. drained_at x (e - cost_of (slot_view y).2) j (slots_view xs)) n)
    ∙ sym (ap (λ j. drained_at x e j (slots_view (y ∷ xs))) m)

pub drained_at-place : (x e i j : ℕ) (xs : List Slot) (v d : Slot) (c : ℕ) → j ≡ i + 1 → i < length xs → d ≡ get_or xs i d → c ≡ cost_from i e (slots_view xs)
    → slot_view v ≡ changed_place (drained_with x c) (slot_view d) → slots_view (set xs i v) ≡ drained_at x e j (slots_view xs)
drained_at-place x e i j xs v d c n h g k q =
    drained_at-set x e i xs v d h (q ∙ ap (λ m. changed_place (drained_with x m) (slot_view d)) k ∙ ap (λ z. changed_place (drained_with x (cost_from i e (slots_view xs))) (slot_view z)) g)
    ∙ ap (λ m. drained_at x e m (slots_view xs)) (sym n)

pub drained_at-zero : (x e : ℕ) (w : Slots) → drained_at x e 0 w ≡ w
drained_at-zero x e no_slot = refl
drained_at-zero x e (slot g k y w) = refl

pub drained_at-past : (x e i : ℕ) (xs : List Slot) → length xs < i → drained_at x e i (slots_view xs) ≡ slots_view xs
drained_at-past x e i [] h = refl
drained_at-past x e zero (y ∷ xs) h = absurd (omega arith)
drained_at-past x e (suc zero) (y ∷ xs) h = absurd (omega arith)
drained_at-past x e (suc (suc i)) (y ∷ xs) h = ap (slot (slot_view y).0 (slot_view y).1 (slot_view y).2) (drained_at-past x (e - cost_of (slot_view y).2) (suc i) xs (omega arith))

pub ruleset drain_rows = (drained_at-set, drained_at-zero, drained_at-past, set_same)
