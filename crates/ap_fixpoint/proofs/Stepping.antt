-- A round step by step is the round at once.
use Rattle.std.proofs.Common.{◌≡◌, ℕ, ◌+◌, ◌<◌, ◌≤◌, length, drop, get_or, append_assoc, ap₂, ◌⊎◌, inl, inr, Bool, true, false, cond, List, [], ◌∷◌, ◌++◌, refl, ap, sym, ◌∙◌, subst}
use Rattle.std.proofs.lemmas.Bool.{false≢true, or_parts}
use Rattle.std.proofs.Math.Path.{fun_ext}
use Rattle.std.proofs.lemmas.List.{drop_more, drop_all}
use Rattle.ap_absunify.specs.declared.states.State.{State}
use Rattle.ap_patterns.specs.declared.slots.Slot.{Slot}
use Rattle.ap_patterns.specs.declared.slots.Given.{Given}
use Rattle.ap_patterns.specs.Given.{Patterns}
use Rattle.ap_patterns.specs.Covered.{is_covered}
use Rattle.ap_patterns.proofs.Coverings.{Below, Below-covered, covered-Below}
use Rattle.ap_fixpoint.specs.Fix.{same_slot, joined_all, kept, united}
use Rattle.ap_fixpoint.specs.Reads.{is_among}
use Rattle.ap_fixpoint.specs.Rounds.{put, step, steps, changed, changed_slot}
use Rattle.ap_fixpoint.proofs.Members.{Has}
use Rattle.ap_fixpoint.proofs.Order.{Below_refl, Below_trans}
use Rattle.ap_fixpoint.proofs.Joins.{same_slot-true, same_slot-refl, AllKept, united_above, united_holds, united-same}

-- each pattern is as it was, or united
abbrev Between : List Given → Patterns → Patterns → Type 0
Between gs t s = (x : Slot) → (s x ≡ t x) ⊎ (s x ≡ united gs t x)

-- what isn't covered yet has its pattern as it was
not_yet : (gs : List Given) (t s : Patterns) (g : Given) → Has g gs → Between gs t s → is_covered g.pattern (s g.slot) ≡ false → s g.slot ≡ t g.slot
not_yet gs t s g h b n =
    elim (b g.slot) [
      | inl e ↦ e
      | inr e ↦ absurd (false≢true (sym n ∙ ap (is_covered g.pattern) e ∙ covered-Below g.pattern (united gs t g.slot) (united_holds gs t g h)))
    ]

put-between : (gs : List Given) (t s : Patterns) (g : Given) → Has g gs → Between gs t s → is_covered g.pattern (s g.slot) ≡ false → Between gs t (put g.slot (united gs s g.slot) s)
put-between gs t s g h b n x = go (same_slot g.slot x) refl
  where
    go : (c : Bool) → same_slot g.slot x ≡ c → (cond c (united gs s g.slot) (s x) ≡ t x) ⊎ (cond c (united gs s g.slot) (s x) ≡ united gs t x)
    go true e = inr (ap (λ z. kept (joined_all g.slot z gs)) (not_yet gs t s g h b n) ∙ ap (united gs t) (same_slot-true g.slot x e))
    go false e = b x

step-between : (gs : List Given) (t s : Patterns) (g : Given) → Has g gs → Between gs t s → Between gs t (step gs g s)
step-between gs t s g h b = go (is_covered g.pattern (s g.slot)) refl
  where
    go : (c : Bool) → is_covered g.pattern (s g.slot) ≡ c → Between gs t (cond c s (put g.slot (united gs s g.slot) s))
    go true e = b
    go false e = put-between gs t s g h b e

step-grows : (gs : List Given) (s : Patterns) (g : Given) (x : Slot) → Below (s x) (step gs g s x)
step-grows gs s g x = go (is_covered g.pattern (s g.slot))
  where
    inner : (c : Bool) → same_slot g.slot x ≡ c → Below (s x) (cond c (united gs s g.slot) (s x))
    inner true e = subst (λ z. Below (s z) (united gs s g.slot)) (same_slot-true g.slot x e) (united_above gs s g.slot)
    inner false e = Below_refl (s x)

    go : (c : Bool) → Below (s x) (cond c s (put g.slot (united gs s g.slot) s) x)
    go true = Below_refl (s x)
    go false = inner (same_slot g.slot x) refl

step-holds : (gs : List Given) (s : Patterns) (g : Given) → Has g gs → Below g.pattern (step gs g s g.slot)
step-holds gs s g h = go (is_covered g.pattern (s g.slot)) refl
  where
    go : (c : Bool) → is_covered g.pattern (s g.slot) ≡ c → Below g.pattern (cond c s (put g.slot (united gs s g.slot) s) g.slot)
    go true e = Below-covered g.pattern (s g.slot) e
    go false e = subst (λ c. Below g.pattern (cond c (united gs s g.slot) (s g.slot))) (sym (same_slot-refl g.slot)) (united_holds gs s g h)

steps-grow : (gs rest : List Given) (s : Patterns) (x : Slot) → Below (s x) (steps gs rest s x)
steps-grow gs [] s x = Below_refl (s x)
steps-grow gs (g ∷ rest) s x = Below_trans (s x) (step gs g s x) (steps gs rest (step gs g s) x) (step-grows gs s g x) (steps-grow gs rest (step gs g s) x)

steps-between : (gs rest : List Given) (t s : Patterns) → ((g : Given) → Has g rest → Has g gs) → Between gs t s → Between gs t (steps gs rest s)
steps-between gs [] t s within b = b
steps-between gs (g ∷ rest) t s within b = steps-between gs rest t (step gs g s) (λ h k. within h (inr k)) (step-between gs t s g (within g (inl refl)) b)

steps-hold : (gs rest : List Given) (s : Patterns) → ((g : Given) → Has g rest → Has g gs) → (g : Given) → Has g rest → Below g.pattern (steps gs rest s g.slot)
steps-hold gs [] s within g h = absurd h
steps-hold gs (f ∷ rest) s within g (inl e) =
    Below_trans g.pattern (step gs f s g.slot) (steps gs rest (step gs f s) g.slot) (subst (λ z. Below z.pattern (step gs f s z.slot)) (sym e) (step-holds gs s f (within f (inl refl))))
    (steps-grow gs rest (step gs f s) g.slot)
steps-hold gs (f ∷ rest) s within g (inr k) = steps-hold gs rest (step gs f s) (λ h i. within h (inr i)) g k

pub steps-united : (gs : List Given) (t : Patterns) → AllKept t → steps gs gs t ≡ united gs t
steps-united gs t k = fun_ext (λ x. go x (steps-between gs gs t t (λ g h. h) (λ y. inl refl) x))
  where
    go : (x : Slot) → (steps gs gs t x ≡ t x) ⊎ (steps gs gs t x ≡ united gs t x) → steps gs gs t x ≡ united gs t x
    go x (inl e) = e ∙ sym (united-same gs t x (k x) (λ g h i. subst (Below g.pattern) (ap (steps gs gs t) (same_slot-true g.slot x i) ∙ e) (steps-hold gs gs t (λ f j. j) g h)))
    go x (inr e) = e

-- ---- what changes

pub unchanged : (gs rest : List Given) (t : Patterns) (x : Slot) → is_among x (changed gs rest t) ≡ false → steps gs rest t x ≡ t x
unchanged gs [] t x h = refl
unchanged gs (g ∷ rest) t x h = go (is_covered g.pattern (t g.slot)) h (unchanged gs rest (step gs g t) x)
  where
    apart : (b : Bool) → same_slot g.slot x ≡ b → (b ≡ false) → cond b (united gs t g.slot) (t x) ≡ t x
    apart true e i = absurd (false≢true (sym i))
    apart false e i = refl

    go : (c : Bool) → is_among x (cond c [] (g.slot ∷ []) ++ changed gs rest (cond c t (put g.slot (united gs t g.slot) t))) ≡ false
        → (is_among x (changed gs rest (cond c t (put g.slot (united gs t g.slot) t))) ≡ false → steps gs rest (cond c t (put g.slot (united gs t g.slot) t)) x ≡ cond c t (put g.slot (united gs t g.slot) t) x)
        → steps gs rest (cond c t (put g.slot (united gs t g.slot) t)) x ≡ t x
    go true i ih = ih i
    go false i ih =
        let r = or_parts (same_slot g.slot x) (is_among x (changed gs rest (put g.slot (united gs t g.slot) t))) i in
        ih r.1 ∙ apart (same_slot g.slot x) refl r.0

-- ---- the loop

pub step-covered : (gs : List Given) (g : Given) (t : Patterns) → is_covered g.pattern (t g.slot) ≡ true → t ≡ step gs g t
step-covered gs g t h = ap (λ b. cond b t (put g.slot (united gs t g.slot) t)) (sym h)

pub step-put : (gs : List Given) (g : Given) (t new : Patterns) (now was : State) → is_covered g.pattern (t g.slot) ≡ false → was ≡ t g.slot → now ≡ kept (joined_all g.slot was gs)
    → new ≡ put g.slot now t → new ≡ step gs g t
step-put gs g t new now was h e n p =
    p ∙ ap (λ z. put g.slot z t) (n ∙ ap (λ z. kept (joined_all g.slot z gs)) e) ∙ ap (λ b. cond b t (put g.slot (united gs t g.slot) t)) (sym h)

pub slots-turn : (gs : List Given) (i : ℕ) (g : Given) (t new : Patterns) (out next whole : List Slot) → i < length gs → g ≡ get_or gs i g → next ≡ out ++ changed_slot g t → new ≡ step gs g t
    → out ++ changed gs (drop i gs) t ≡ whole → next ++ changed gs (drop (i + 1) gs) new ≡ whole
slots-turn gs i g t new out next whole h e n p w =
    ap₂ (λ a b. a ++ changed gs (drop (i + 1) gs) b) n p ∙ append_assoc out (changed_slot g t) (changed gs (drop (i + 1) gs) (step gs g t))
    ∙ ap (λ z. out ++ z) (sym (ap (λ l. changed gs l t) (drop_more gs i g h ∙ ap (λ d. d ∷ drop (i + 1) gs) (sym e)))) ∙ w

pub table-turn : (gs : List Given) (i : ℕ) (g : Given) (t new whole : Patterns) → i < length gs → g ≡ get_or gs i g → new ≡ step gs g t
    → steps gs (drop i gs) t ≡ whole → steps gs (drop (i + 1) gs) new ≡ whole
table-turn gs i g t new whole h e p w =
    ap (steps gs (drop (i + 1) gs)) p ∙ sym (ap (λ l. steps gs l t) (drop_more gs i g h ∙ ap (λ d. d ∷ drop (i + 1) gs) (sym e))) ∙ w

pub table-done : (gs : List Given) (i : ℕ) (t whole : Patterns) → length gs ≤ i → steps gs (drop i gs) t ≡ whole → t ≡ whole
table-done gs i t whole h w = ap (λ l. steps gs l t) (sym (drop_all i gs h)) ∙ w
