-- What is given, by slots.
use Rattle.std.proofs.Common.{◌≡◌, ℕ, ◌+◌, ◌<◌, ◌≤◌, Bool, true, false, cond, List, [], ◌∷◌, ◌++◌, Some, length, drop, get_or, append_assoc, append-nil, length-append, refl, ap, sym, ◌∙◌, slice_get, arith}
use Rattle.std.proofs.lemmas.List.{drop_more, drop_all}
use Rattle.std.proofs.lemmas.Option.{slice_get_past}
use Rattle.ap_absunify.specs.declared.states.State.{State}
use Rattle.ap_patterns.specs.declared.slots.Slot.{Slot}
use Rattle.ap_patterns.specs.declared.slots.Given.{Given}
use Rattle.ap_fixpoint.specs.Fix.{same_slot, joined, joined_all}
use Rattle.ap_fixpoint.specs.Rounds.{places_from, joined_if, joined_at, IsGrouped}

slice_get-middle : (pre rest : List Given) (g : Given) → slice_get (pre ++ g ∷ rest) (length pre) ≡ Some g
slice_get-middle [] rest g = refl
slice_get-middle (h ∷ pre) rest g = slice_get-middle pre rest g

joined_at-places : (gs pre rest : List Given) (n : ℕ) (x : Slot) (s : State) → gs ≡ pre ++ rest → n ≡ length pre → joined_at gs (places_from n rest x) s ≡ joined_all x s rest
joined_at-places gs pre [] n x s e l = refl
joined_at-places gs pre (g ∷ rest) n x s e l = go (same_slot g.slot x) (λ r. joined_at-places gs (pre ++ g ∷ []) rest (n + 1) x r (e ∙ sym (append_assoc pre (g ∷ []) rest)) more)
  where
    more : n + 1 ≡ length (pre ++ g ∷ [])
    more = let h : length (pre ++ g ∷ []) ≡ length pre + length (g ∷ []) = length-append pre (g ∷ []) in omega (arith, h, l)

    here : slice_get gs n ≡ Some g
    here = ap (λ z. slice_get z n) e ∙ ap (slice_get (pre ++ g ∷ rest)) l ∙ slice_get-middle pre rest g

    go : (b : Bool) → ((r : State) → joined_at gs (places_from (n + 1) rest x) r ≡ joined_all x r rest)
        → joined_at gs (cond b (n ∷ []) [] ++ places_from (n + 1) rest x) s ≡ joined_all x (cond b (joined s g.pattern) s) rest
    go true ih = ap (λ o. joined_at gs (places_from (n + 1) rest x) (joined_if s o)) here ∙ ih (joined s g.pattern)
    go false ih = ih s

pub grouped-done : (f : Slot → List ℕ) (gs : List Given) (i : ℕ) → length gs ≤ i → ((x : Slot) → f x ++ places_from i (drop i gs) x ≡ places_from 0 gs x) → IsGrouped gs f
grouped-done f gs i l w x s = ap (λ ns. joined_at gs ns s) (sym (append-nil (f x)) ∙ ap (λ zs. f x ++ places_from i zs x) (sym (drop_all i gs l)) ∙ w x) ∙ joined_at-places gs [] gs 0 x s refl refl

pub places-turn : (f g : Slot → List ℕ) (gs : List Given) (i : ℕ) (d : Given) (x : Slot) (whole : List ℕ) → i < length gs → g x ≡ cond (same_slot (get_or gs i d).slot x) (f x ++ i ∷ []) (f x)
    → f x ++ places_from i (drop i gs) x ≡ whole → g x ++ places_from (i + 1) (drop (i + 1) gs) x ≡ whole
places-turn f g gs i d x whole l s w =
    ap (λ z. z ++ places_from (i + 1) (drop (i + 1) gs) x) (s ∙ go (same_slot (get_or gs i d).slot x))
    ∙ append_assoc (f x) (cond (same_slot (get_or gs i d).slot x) (i ∷ []) []) (places_from (i + 1) (drop (i + 1) gs) x)
    ∙ ap (λ z. f x ++ z) (sym (ap (λ zs. places_from i zs x) (drop_more gs i d l))) ∙ w
  where
    go : (b : Bool) → cond b (f x ++ i ∷ []) (f x) ≡ f x ++ cond b (i ∷ []) []
    go true = refl
    go false = sym (append-nil (f x))

pub none-joined : (gs : List Given) (n : ℕ) (s : State) → length gs ≤ n → s ≡ joined_if s (slice_get gs n)
none-joined gs n s l = ap (joined_if s) (sym (slice_get_past gs n l))
