-- A pattern united with all that is given to it.
use Rattle.std.proofs.Common.{◌≡◌, ◌⊎◌, inl, inr, Bool, true, false, cond, List, [], ◌∷◌, refl, ap, sym, ◌∙◌, subst}
use Rattle.std.proofs.lemmas.Bool.{false≢true}
use Rattle.ap_absunify.specs.declared.states.State.{State}
use Rattle.ap_patterns.specs.declared.slots.Slot.{Slot}
use Rattle.ap_patterns.specs.declared.slots.Slot.TheVariants.{Call, Success}
use Rattle.ap_patterns.specs.declared.slots.Given.{Given}
use Rattle.ap_patterns.specs.Given.{Patterns}
use Rattle.ap_patterns.proofs.Coverings.{Below}
use Rattle.ap_patterns.proofs.Rows.{same_predicate-true, same_predicate-refl}
use Rattle.ap_fixpoint.specs.Fix.{same_slot, joined, joined_all, united}
use Rattle.ap_fixpoint.proofs.Members.{Has}
use Rattle.ap_fixpoint.proofs.Order.{Below_refl, Below_trans, joined_left, joined_right, joined_least, InOrder, joined_in_order, Kept, kept-Kept, Kept-same, Kept_in_order, kept_above, kept_same}

pub same_slot-true : (x y : Slot) → same_slot x y ≡ true → x ≡ y
same_slot-true (Call p) (Call q) h = ap Call (same_predicate-true p q h)
same_slot-true (Success p) (Success q) h = ap Success (same_predicate-true p q h)
same_slot-true (Call p) (Success q) h = absurd (false≢true h)
same_slot-true (Success p) (Call q) h = absurd (false≢true h)

pub same_slot-refl : (x : Slot) → same_slot x x ≡ true
same_slot-refl (Call p) = same_predicate-refl p
same_slot-refl (Success p) = same_predicate-refl p

-- ---- all that is given, joined

-- what is given to x is covered by s
abbrev pub Holds : Slot → List Given → State → Type 0
Holds x gs s = (g : Given) → Has g gs → same_slot g.slot x ≡ true → Below g.pattern s

pub joined_all_above : (x : Slot) (s : State) (gs : List Given) → Below s (joined_all x s gs)
joined_all_above x s [] = Below_refl s
joined_all_above x s (g ∷ gs) = go (same_slot g.slot x) (λ r. joined_all_above x r gs)
  where
    go : (b : Bool) → ((r : State) → Below r (joined_all x r gs)) → Below s (joined_all x (cond b (joined s g.pattern) s) gs)
    go true ih = Below_trans s (joined s g.pattern) (joined_all x (joined s g.pattern) gs) (joined_left s g.pattern) (ih (joined s g.pattern))
    go false ih = ih s

pub joined_all_holds : (x : Slot) (s : State) (gs : List Given) → Holds x gs (joined_all x s gs)
joined_all_holds x s [] h k e = absurd k
joined_all_holds x s (g ∷ gs) h (inl i) e =
    let j : same_slot g.slot x ≡ true = ap (λ z. same_slot z.slot x) (sym i) ∙ e in
    subst (λ b. Below h.pattern (joined_all x (cond b (joined s g.pattern) s) gs)) (sym j)
    (Below_trans h.pattern (joined s g.pattern) (joined_all x (joined s g.pattern) gs) (subst (λ z. Below z.pattern (joined s g.pattern)) (sym i) (joined_right s g.pattern)) (joined_all_above x (joined s g.pattern) gs))
joined_all_holds x s (g ∷ gs) h (inr k) e = joined_all_holds x (cond (same_slot g.slot x) (joined s g.pattern) s) gs h k e

pub joined_all_least : (x : Slot) (s c : State) (gs : List Given) → Below s c → Holds x gs c → Below (joined_all x s gs) c
joined_all_least x s c [] h k = h
joined_all_least x s c (g ∷ gs) h k = go (same_slot g.slot x) refl (λ r i. joined_all_least x r c gs i (λ f i j. k f (inr i) j))
  where
    go : (b : Bool) → same_slot g.slot x ≡ b → ((r : State) → Below r c → Below (joined_all x r gs) c) → Below (joined_all x (cond b (joined s g.pattern) s) gs) c
    go true e ih = ih (joined s g.pattern) (joined_least s g.pattern c h (k g (inl refl) e))
    go false e ih = ih s h

pub joined_all_in_order : (x : Slot) (s : State) (gs : List Given) → InOrder s → InOrder (joined_all x s gs)
joined_all_in_order x s [] h = h
joined_all_in_order x s (g ∷ gs) h = go (same_slot g.slot x) (λ r i. joined_all_in_order x r gs i)
  where
    go : (b : Bool) → ((r : State) → InOrder r → InOrder (joined_all x r gs)) → InOrder (joined_all x (cond b (joined s g.pattern) s) gs)
    go true ih = ih (joined s g.pattern) (joined_in_order s g.pattern h)
    go false ih = ih s h

-- ---- united

abbrev pub AllKept : Patterns → Type 0
AllKept t = (x : Slot) → Kept (t x)

pub united_above : (gs : List Given) (t : Patterns) (x : Slot) → Below (t x) (united gs t x)
united_above gs t x = Below_trans (t x) (joined_all x (t x) gs) (united gs t x) (joined_all_above x (t x) gs) (kept_above (joined_all x (t x) gs))

pub united_holds : (gs : List Given) (t : Patterns) (g : Given) → Has g gs → Below g.pattern (united gs t g.slot)
united_holds gs t g h =
    Below_trans g.pattern (joined_all g.slot (t g.slot) gs) (united gs t g.slot) (joined_all_holds g.slot (t g.slot) gs g h (same_slot-refl g.slot)) (kept_above (joined_all g.slot (t g.slot) gs))

pub united-kept : (gs : List Given) (t : Patterns) → AllKept t → AllKept (united gs t)
united-kept gs t k x = kept-Kept (joined_all x (t x) gs) (joined_all_in_order x (t x) gs (Kept_in_order (t x) (k x)))

-- what covers all that is given stays as it is
pub united-same : (gs : List Given) (t : Patterns) (x : Slot) → Kept (t x) → Holds x gs (t x) → united gs t x ≡ t x
united-same gs t x k h =
    kept_same (joined_all x (t x) gs) (t x) (joined_all_in_order x (t x) gs (Kept_in_order (t x) k)) (Kept_in_order (t x) k) (joined_all_least x (t x) (t x) gs (Below_refl (t x)) h)
    (joined_all_above x (t x) gs)
    ∙ Kept-same (t x) k

-- what is covered already may be left out
pub united-fewer : (gs hs : List Given) (t : Patterns) (x : Slot) → Kept (t x) → ((g : Given) → Has g gs → Has g hs) → ((g : Given) → Has g hs → Has g gs ⊎ Below g.pattern (t g.slot))
    → united gs t x ≡ united hs t x
united-fewer gs hs t x k fewer rest =
    kept_same (joined_all x (t x) gs) (joined_all x (t x) hs) (joined_all_in_order x (t x) gs (Kept_in_order (t x) k)) (joined_all_in_order x (t x) hs (Kept_in_order (t x) k))
    (joined_all_least x (t x) (joined_all x (t x) hs) gs (joined_all_above x (t x) hs) (λ g h e. joined_all_holds x (t x) hs g (fewer g h) e))
    (joined_all_least x (t x) (joined_all x (t x) gs) hs (joined_all_above x (t x) gs) (λ g h e.
    elim (rest g h) [
      | inl i ↦ joined_all_holds x (t x) gs g i e
      | inr i ↦ Below_trans g.pattern (t x) (joined_all x (t x) gs) (subst (λ z. Below g.pattern (t z)) (same_slot-true g.slot x e) i) (joined_all_above x (t x) gs)
    ]))
