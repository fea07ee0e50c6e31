-- Registers that are written and read, and variables that were seen.
use Rattle.std.proofs.Common.{◌≡◌, ◌≢◌, ℕ, Bool, true, false, ◌||◌, ◌==◌, nat_eq, if◌then◌else◌, List, [], ◌∷◌, ◌++◌, ◌⊎◌, inl, inr, refl, ap, sym, ◌∙◌}
use Rattle.std.proofs.lemmas.Bool.{false≢true}
use Rattle.std.proofs.lemmas.Bool.Decides.{Decides-eqb}
use Rattle.ap_term.specs.Vars.{has}
use Rattle.ap_term.proofs.Solutions.{same_test}
use Rattle.ap_instr.specs.declared.instruction.Slot.{Slot}
use Rattle.ap_instr.specs.declared.instruction.Slot.TheVariants.{X, Y}
use Rattle.ap_instr.specs.Runs.{set, read, set_x, set_y}

-- ---- maps

pub set_here : {A : Type 0} → (r : ℕ → A) (n : ℕ) (t : A) → set r n t n ≡ t
set_here r n t = ap (λ b. if b then t else r n) (same_test n n refl)

pub set_other : {A : Type 0} → (r : ℕ → A) (n : ℕ) (t : A) (w : ℕ) → w ≢ n → set r n t w ≡ r w
set_other r n t w k = go (w == n) refl
  where
    go : (b : Bool) → (w == n) ≡ b → (if b then t else r w) ≡ r w
    go true e = absurd (k ((Decides-eqb w n).0 e))
    go false e = refl

pub read_here : {A : Type 0} → (v : Slot) (t : A) (x y : ℕ → A) → read v (set_x v t x) (set_y v t y) ≡ t
read_here (X n) t x y = set_here x n t
read_here (Y n) t x y = set_here y n t

pub read_other : {A : Type 0} → (u v : Slot) (t : A) (x y : ℕ → A) → u ≢ v → read u (set_x v t x) (set_y v t y) ≡ read u x y
read_other (X m) (X n) t x y k = set_other x n t m (λ e. k (ap X e))
read_other (X m) (Y n) t x y k = refl
read_other (Y m) (X n) t x y k = refl
read_other (Y m) (Y n) t x y k = set_other y n t m (λ e. k (ap Y e))

abbrev pub is_x : Slot → Bool
is_x (X n) = true
is_x (Y n) = false

same_number : (m n : ℕ) → (m ≡ n) ⊎ (m ≢ n)
same_number m n = go (m == n) refl
  where
    go : (b : Bool) → (m == n) ≡ b → (m ≡ n) ⊎ (m ≢ n)
    go true e = inl ((Decides-eqb m n).0 e)
    go false e = inr (λ k. false≢true (sym e ∙ same_test m n k))

abbrev pub number_of : Slot → ℕ
number_of (X n) = n
number_of (Y n) = n

pub same_slot : (u v : Slot) → (u ≡ v) ⊎ (u ≢ v)
same_slot (X m) (X n) = elim (same_number m n) as (λ _. (X m ≡ X n) ⊎ (X m ≢ X n)) [ inl e ↦ inl (ap X e) | inr k ↦ inr (λ e. k (ap number_of e)) ]
same_slot (X m) (Y n) = inr (λ e. false≢true (sym (ap is_x e)))
same_slot (Y m) (X n) = inr (λ e. false≢true (ap is_x e))
same_slot (Y m) (Y n) = elim (same_number m n) as (λ _. (Y m ≡ Y n) ⊎ (Y m ≢ Y n)) [ inl e ↦ inl (ap Y e) | inr k ↦ inr (λ e. k (ap number_of e)) ]

-- ---- variables that were seen

pub has_more : (seen : List ℕ) (w v : ℕ) → has seen v ≡ true → has (seen ++ w ∷ []) v ≡ true
has_more [] w v h = absurd (false≢true h)
has_more (u ∷ seen) w v h = go (nat_eq u v) h (has_more seen w v)
  where
    go : (b : Bool) → (b || has seen v) ≡ true → (has seen v ≡ true → has (seen ++ w ∷ []) v ≡ true) → (b || has (seen ++ w ∷ []) v) ≡ true
    go true h r = refl
    go false h r = r h
