-- The left edge, and the place to drain, as walks from the left.
use Rattle.std.proofs.Common.{◌≡◌, ℕ, ◌+◌, ◌-◌, ◌<◌, ◌≤◌, Bool, true, false, ◌&&◌, if◌then◌else◌, Option, Some, None, List, length, drop, drop_of_length-le, get_or, refl, ap, sym, ◌∙◌, subst, arith}
use Rattle.ap_term.specs.Tree.{Tree}
use Rattle.ap_core.specs.declared.tasks.Slot.{Slot}
use Rattle.ap_core.specs.Tasks.{Slots, no_slot, slot, Progress, idle, stored, busy, held, redone, again, drained}
use Rattle.ap_core.specs.TaskView.{slot_view, slots_view}
use Rattle.ap_core.specs.Conditions.{left_edge, has_failed, has_more, place_behind, place_to_drain}
use Rattle.ap_core.specs.VerdictView.{AddsTo, PrefixCost}
use Rattle.ap_core.proofs.Views.{slots_view-drop_more}

pub left_edge-least : (r n : ℕ) (w : Slots) → n ≤ left_edge r n w
left_edge-least r n no_slot = omega arith
left_edge-least r n (slot g k (idle i) w) = omega arith
left_edge-least r n (slot g k (stored m) w) = omega arith
left_edge-least r n (slot g k (busy b t) w) = omega arith
left_edge-least r n (slot g k (held m a t c) w) = omega (arith, left_edge-least r (n + c) w)
left_edge-least r n (slot g k (redone m b t i) w) = omega arith
left_edge-least r n (slot g k (again m a t c) w) = omega (arith, left_edge-least r (n + c) w)
left_edge-least r n (slot g k (drained m b t i e) w) = omega arith

-- one more slot of the walk
edge_here : (xs : List Slot) (i : ℕ) (x : Slot) (r n e : ℕ) → i < length xs → x ≡ get_or xs i x → left_edge r n (slots_view (drop i xs)) ≡ e
    → left_edge r n (slot (slot_view x).0 (slot_view x).1 (slot_view x).2 (slots_view (drop (i + 1) xs))) ≡ e
edge_here xs i x r n e h q k = sym (ap (left_edge r n) (slots_view-drop_more xs i x h q)) ∙ k

pub edge_on : (xs : List Slot) (i : ℕ) (x : Slot) (r n c e : ℕ) → i < length xs → x ≡ get_or xs i x → n ≤ r → PrefixCost (r - n) r (slot_view x) (Some c, true) → left_edge r n (slots_view (drop i xs)) ≡ e
    → left_edge r (n + c) (slots_view (drop (i + 1) xs)) ≡ e
edge_on xs i x r n c e h q l d k = sym (d n (slots_view (drop (i + 1) xs)) (omega arith)) ∙ edge_here xs i x r n e h q k

pub edge_last : (xs : List Slot) (i : ℕ) (x : Slot) (r n c e : ℕ) → i < length xs → x ≡ get_or xs i x → n ≤ r → PrefixCost (r - n) r (slot_view x) (Some c, false) → left_edge r n (slots_view (drop i xs)) ≡ e
    → n + c ≡ e
edge_last xs i x r n c e h q l d k = sym (d n (slots_view (drop (i + 1) xs)) (omega arith)) ∙ edge_here xs i x r n e h q k

pub edge_above : (xs : List Slot) (i : ℕ) (x : Slot) (r n e : ℕ) (o : Option ℕ) (b : Bool) → i < length xs → x ≡ get_or xs i x → n ≤ r → PrefixCost (r - n) r (slot_view x) (o, b) → left_edge r n (slots_view (drop i xs)) ≡ e
    → ((c : ℕ) → o ≡ Some c → r - n < c) → r < e
edge_above xs i x r n e None b h q l d k m = let z = d n (slots_view (drop (i + 1) xs)) (omega arith) in omega (arith, z, edge_here xs i x r n e h q k)
edge_above xs i x r n e (Some c) true h q l d k m =
    let z = d n (slots_view (drop (i + 1) xs)) (omega arith) in omega (arith, z, edge_here xs i x r n e h q k, m c refl, left_edge-least r (n + c) (slots_view (drop (i + 1) xs)))
edge_above xs i x r n e (Some c) false h q l d k m =
    let z = d n (slots_view (drop (i + 1) xs)) (omega arith) in omega (arith, z, edge_here xs i x r n e h q k, m c refl)

-- the same of what a slot's cost was found to be
pub edge_room : (xs : List Slot) (i : ℕ) (x : Slot) (r n c e : ℕ) (p : Option ℕ × Bool) → i < length xs → x ≡ get_or xs i x → n ≤ r → PrefixCost (r - n) r (slot_view x) p → left_edge r n (slots_view (drop i xs)) ≡ e
    → p.0 ≡ Some c → r - n < c → r < e
edge_room xs i x r n c e p h q l d k z m =
    edge_above xs i x r n e (Some c) p.1 h q l (subst (λ o. PrefixCost (r - n) r (slot_view x) (o, p.1)) z d) k (λ j y. let v : c ≡ j = cc in omega (arith, v, m))

pub edge_stays : (xs : List Slot) (i : ℕ) (x : Slot) (r n c e : ℕ) (p : Option ℕ × Bool) → i < length xs → x ≡ get_or xs i x → n ≤ r → PrefixCost (r - n) r (slot_view x) p → left_edge r n (slots_view (drop i xs)) ≡ e
    → p.0 ≡ Some c → p.1 ≡ false → n + c ≡ e
edge_stays xs i x r n c e p h q l d k z b =
    edge_last xs i x r n c e h q l (subst (λ g. PrefixCost (r - n) r (slot_view x) (Some c, g)) b (subst (λ o. PrefixCost (r - n) r (slot_view x) (o, p.1)) z d)) k

pub edge_goes : (xs : List Slot) (i : ℕ) (x : Slot) (r n c e : ℕ) (p : Option ℕ × Bool) → i < length xs → x ≡ get_or xs i x → n ≤ r → PrefixCost (r - n) r (slot_view x) p → left_edge r n (slots_view (drop i xs)) ≡ e
    → p.0 ≡ Some c → p.1 ≡ true → left_edge r (n + c) (slots_view (drop (i + 1) xs)) ≡ e
edge_goes xs i x r n c e p h q l d k z b =
    edge_on xs i x r n c e h q l (subst (λ g. PrefixCost (r - n) r (slot_view x) (Some c, g)) b (subst (λ o. PrefixCost (r - n) r (slot_view x) (o, p.1)) z d)) k

pub edge_end : (xs : List Slot) (i r n e : ℕ) → length xs ≤ i → left_edge r n (slots_view (drop i xs)) ≡ e → n ≡ e
edge_end xs i r n e h k = sym (ap (λ ys. left_edge r n (slots_view ys)) (drop_of_length-le xs h)) ∙ k

pub ruleset edge_rows = (slots_view-drop_more, left_edge-least, edge_on, edge_last, edge_above, edge_end)

-- ---- the place to drain

-- the place that a walk finds which has come past i slots and has found p
abbrev pub later_of : ℕ → Option ℕ → Option ℕ → Option ℕ
later_of i p None = p
later_of i p (Some j) = Some (j + i)

pub drain_begins : (o : Option ℕ) → o ≡ later_of 0 None o
drain_begins None = refl
drain_begins (Some j) = ap Some (omega arith)

place_behind-later : (i : ℕ) (p o : Option ℕ) (b : Bool) → later_of i p (place_behind o b) ≡ later_of (i + 1) (if b then Some (i + 1) else p) o
place_behind-later i p None true = ap Some (omega arith)
place_behind-later i p None false = refl
place_behind-later i p (Some j) true = ap Some (omega arith)
place_behind-later i p (Some j) false = ap Some (omega arith)

pub drain_failed : (loud : Tree → Bool) (xs : List Slot) (i : ℕ) (x : Slot) (p e : Option ℕ) → i < length xs → x ≡ get_or xs i x → has_failed (slot_view x).2 ≡ true
    → e ≡ later_of i p (place_to_drain loud (slots_view (drop i xs))) → p ≡ e
drain_failed loud xs i x p e h q f k =
    sym (k ∙ ap (λ w. later_of i p (place_to_drain loud w)) (slots_view-drop_more xs i x h q) ∙ ap (λ b. later_of i p (if b then None else place_behind (place_to_drain loud (slots_view (drop (i + 1) xs))) (loud (slot_view x).0 && has_more (slot_view x).2))) f)

pub drain_more : (loud : Tree → Bool) (xs : List Slot) (i : ℕ) (x : Slot) (p q e : Option ℕ) → i < length xs → x ≡ get_or xs i x → has_failed (slot_view x).2 ≡ false
    → q ≡ (if (loud (slot_view x).0 && has_more (slot_view x).2) then Some (i + 1) else p)
    → e ≡ later_of i p (place_to_drain loud (slots_view (drop i xs))) → e ≡ later_of (i + 1) q (place_to_drain loud (slots_view (drop (i + 1) xs)))
drain_more loud xs i x p q e h v f d k =
    k ∙ ap (λ w. later_of i p (place_to_drain loud w)) (slots_view-drop_more xs i x h v)
    ∙ ap (λ b. later_of i p (if b then None else place_behind (place_to_drain loud (slots_view (drop (i + 1) xs))) (loud (slot_view x).0 && has_more (slot_view x).2))) f
    ∙ place_behind-later i p (place_to_drain loud (slots_view (drop (i + 1) xs))) (loud (slot_view x).0 && has_more (slot_view x).2)
    ∙ ap (λ y. later_of (i + 1) y (place_to_drain loud (slots_view (drop (i + 1) xs)))) (sym d)

pub drain_ends : (loud : Tree → Bool) (xs : List Slot) (i : ℕ) (p e : Option ℕ) → length xs ≤ i → e ≡ later_of i p (place_to_drain loud (slots_view (drop i xs))) → p ≡ e
drain_ends loud xs i p e h k = sym (k ∙ ap (λ ys. later_of i p (place_to_drain loud (slots_view ys))) (drop_of_length-le xs h))

pub ruleset drain_rows = (drain_begins, drain_failed, drain_more, drain_ends)
