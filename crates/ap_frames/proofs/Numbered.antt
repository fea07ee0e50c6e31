-- Loops over slots, each of which is changed by its number; and fresh slots.
use Rattle.std.proofs.Common.{◌≡◌, ℕ, zero, suc, ◌+◌, ◌<◌, ◌≤◌, Bool, List, [], ◌∷◌, ◌++◌, length, take, get_or, set, refl, ap, subst, ◌∙◌, arith}
use Rattle.ap_frames.specs.declared.slots.Slot.{Slot}
use Rattle.ap_frames.specs.Rows.{fresh, all_fresh}
use Rattle.ap_frames.specs.Rounds.{numbered}

-- the first j slots changed, each by its number, which counts from n
abbrev pub changed : {S T : Type 0} → (ℕ → Slot S T → Slot S T) → ℕ → ℕ → List (Slot S T) → List (Slot S T)
changed f n zero zs = zs
changed f n (suc j) [] = []
changed f n (suc j) (z ∷ zs) = f n z ∷ changed f (n + 1) j zs

changed_suc : {S T : Type 0} (f : ℕ → Slot S T → Slot S T) (n j : ℕ) (zs : List (Slot S T)) (v d : Slot S T) → j < length (changed f n j zs) → v ≡ f (n + j) (get_or (changed f n j zs) j d)
    → set (changed f n j zs) j v ≡ changed f n (suc j) zs
changed_suc f n zero [] v d k e = absurd (omega arith)
changed_suc f n (suc j) [] v d k e = absurd (omega arith)
changed_suc f n zero (z ∷ zs) v d k e = let m : n + 0 ≡ n = omega arith in ap (λ y. y ∷ zs) (e ∙ ap (λ i. f i z) m)
changed_suc f n (suc j) (z ∷ zs) v d k e =
    let m : n + suc j ≡ (n + 1) + j = omega arith in
    ap (λ ys. f n z ∷ ys) (changed_suc f (n + 1) j zs v d (omega (arith, k)) (e ∙ ap (λ i. f i (get_or (changed f (n + 1) j zs) j d)) m))

pub changed_more : {S T : Type 0} (f : ℕ → Slot S T → Slot S T) (j : ℕ) (xs zs : List (Slot S T)) (v d : Slot S T) → xs ≡ changed f 1 j zs → j < length xs → v ≡ f (j + 1) (get_or xs j d)
    → set xs j v ≡ changed f 1 (j + 1) zs
changed_more f j xs zs v d h k e =
    let s : suc j ≡ j + 1 = omega arith in
    let m : j + 1 ≡ 1 + j = omega arith in
    let l : j < length (changed f 1 j zs) = subst (λ ys. j < length ys) h k in
    let w : v ≡ f (1 + j) (get_or (changed f 1 j zs) j d) = e ∙ ap (λ ys. f (j + 1) (get_or ys j d)) h ∙ ap (λ i. f i (get_or (changed f 1 j zs) j d)) m in
    ap (λ ys. set ys j v) h ∙ changed_suc f 1 j zs v d l w ∙ ap (λ i. changed f 1 i zs) s

length-changed : {S T : Type 0} (f : ℕ → Slot S T → Slot S T) (n j : ℕ) (zs : List (Slot S T)) → length (changed f n j zs) ≡ length zs
length-changed f n zero zs = refl
length-changed f n (suc j) [] = refl
length-changed f n (suc j) (z ∷ zs) = ap suc (length-changed f (n + 1) j zs)

changed-numbered : {S T : Type 0} (f : ℕ → Slot S T → Slot S T) (n j : ℕ) (zs : List (Slot S T)) → length zs ≤ j → changed f n j zs ≡ numbered f n zs
changed-numbered f n zero [] h = refl
changed-numbered f n zero (z ∷ zs) h = absurd (omega arith)
changed-numbered f n (suc j) [] h = refl
changed-numbered f n (suc j) (z ∷ zs) h = ap (λ ys. f n z ∷ ys) (changed-numbered f (n + 1) j zs (omega arith))

pub changed_all : {S T : Type 0} (f : ℕ → Slot S T → Slot S T) (j : ℕ) (xs zs : List (Slot S T)) → xs ≡ changed f 1 j zs → length xs ≤ j → xs ≡ numbered f 1 zs
changed_all f j xs zs h k = h ∙ changed-numbered f 1 j zs (omega (arith, length-changed f 1 j zs, ap length h, k))

pub ruleset numbered_rules = (changed_more, changed_all)

pub length-numbered : {S T : Type 0} (f : ℕ → Slot S T → Slot S T) (n : ℕ) (zs : List (Slot S T)) → length (numbered f n zs) ≡ length zs
length-numbered f n [] = refl
length-numbered f n (z ∷ zs) = ap suc (length-numbered f (n + 1) zs)

-- one more fresh slot
pub fresh-more : (S T : Type 0) (bs : List Bool) (i : ℕ) (d : Bool) → i < length bs → all_fresh S T (take i bs) ++ fresh S T (get_or bs i d) ∷ [] ≡ all_fresh S T (take (i + 1) bs)
fresh-more S T bs i d h = let m : suc i ≡ i + 1 = omega arith in go bs i h ∙ ap (λ j. all_fresh S T (take j bs)) m
  where
    go : (bs : List Bool) (i : ℕ) → i < length bs → all_fresh S T (take i bs) ++ fresh S T (get_or bs i d) ∷ [] ≡ all_fresh S T (take (suc i) bs)
    go [] i h = absurd (omega arith)
    go (c ∷ bs) zero h = refl
    go (c ∷ bs) (suc i) h = ap (λ ys. fresh S T c ∷ ys) (go bs i (omega arith))

pub ruleset fresh_rules = fresh-more

pub ruleset length_rules = length-numbered
