-- Marks behind a write, and with more places.
use Rattle.std.proofs.Common.{◌≡◌, ℕ, ◌+◌, ◌-◌, ◌<◌, ◌≤◌, ◌==◌, ◌&&◌, nat_le, Bool, true, false, cond, List, ◌++◌, [], ◌∷◌, length, get_or, take, replicate, refl, ap, subst, arith}
use Rattle.std.proofs.Math.Bool.{beq}
use Rattle.std.specs.Cmp.Lexicographic.{pointwise}
use Rattle.std.proofs.Math.ListN.{set}
use Rattle.std.proofs.Math.Path.{fun_ext}
use Rattle.std.proofs.lemmas.Grind.{common_steps}
use Rattle.std.proofs.lemmas.List.{take_all}
use Rattle.std.proofs.lemmas.Bool.Decides.{nat_tests}
use Rattle.ap_codecheck.specs.Shape.{entry}
use Rattle.ap_instr.specs.Runs.{set as changed}
use Rattle.ap_codecheck.specs.Marks.{marked}

marked_set_at : (xs : List Bool) (at : ℕ) (v : Bool) → at < length xs → (k : ℕ) → get_or (set xs at v) k false ≡ cond (k == at) v (get_or xs k false)
marked_set_at xs at v h k = grind (arith, common_steps)

pub marked-set : (xs : List Bool) (at : ℕ) (v : Bool) → at < length xs → marked (set xs at v) ≡ changed (marked xs) at v
marked-set xs at v h = fun_ext (marked_set_at xs at v h)

padded_at : (xs : List Bool) (n k : ℕ) → get_or (xs ++ replicate n false) k false ≡ get_or xs k false
padded_at xs n k = grind (arith, common_steps)

pub marked-padded : (xs : List Bool) (n : ℕ) → marked (xs ++ replicate n false) ≡ marked xs
marked-padded xs n = fun_ext (padded_at xs n)

entered_at : (n : ℕ) → (k : ℕ) → get_or (set (replicate (n + 1) true) 0 false) k false ≡ (nat_le 1 k && nat_le k n)
entered_at n k = grind (arith, common_steps, nat_tests)

pub marked-entry : (n : ℕ) → marked (set (replicate (n + 1) true) 0 false) ≡ (entry n).x
marked-entry n = fun_ext (entered_at n)

pub marked-widened : (xs ys : List Bool) (n m : ℕ) → length xs ≤ n → ys ≡ take n xs ++ replicate (n - m) false → marked ys ≡ marked xs
marked-widened xs ys n m h e = rw (e, take_all) (marked-padded xs (n - m))

pub marked-opened : (n m : ℕ) (xs ys : List Bool) → xs ≡ [] → m ≡ 0 → ys ≡ take (n + 1) xs ++ replicate (n + 1 - m) true → marked (set ys 0 false) ≡ (entry n).x
marked-opened n m xs ys e z h =
    let same : ys ≡ replicate (n + 1) true = grind (arith, common_steps) in rw same (marked-entry n)

-- marks that are told to be the same are
pub marks_same : (xs ys : List Bool) → pointwise beq xs ys ≡ true → xs ≡ ys
marks_same [] [] h = refl
marks_same [] (y ∷ ys) h = cc
marks_same (x ∷ xs) [] h = cc
marks_same (true ∷ xs) (true ∷ ys) h = ap (λ zs. true ∷ zs) (marks_same xs ys h)
marks_same (false ∷ xs) (false ∷ ys) h = ap (λ zs. false ∷ zs) (marks_same xs ys h)
marks_same (true ∷ xs) (false ∷ ys) h = cc
marks_same (false ∷ xs) (true ∷ ys) h = cc

alike_marks : (xs : List Bool) → pointwise beq xs xs ≡ true
alike_marks [] = refl
alike_marks (true ∷ xs) = alike_marks xs
alike_marks (false ∷ xs) = alike_marks xs

-- and marks that are told to be others are
pub marks_other : (xs ys : List Bool) → pointwise beq xs ys ≡ false → xs ≡ ys → ⊥
marks_other xs ys h e = let k : pointwise beq xs ys ≡ true = subst (λ zs. pointwise beq xs zs ≡ true) e (alike_marks xs) in cc
