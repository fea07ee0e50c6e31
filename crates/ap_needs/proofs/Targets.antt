-- Registers that all instructions write.
use Rattle.std.proofs.Common.{ℕ, zero, suc, ◌<◌, ◌≤◌, List, [], ◌∷◌, length, drop, get_or, arith}
use Rattle.ap_instr.specs.declared.instruction.Instr.{Instr}
use Rattle.ap_needs.specs.Needs.{HasTargets, AllHaveTargets}

-- each instruction's
abbrev pub EachHasTargets : List Instr → ℕ → ℕ → Type 0
EachHasTargets is xs ys = (k : ℕ) (d : Instr) → k < length is → HasTargets (get_or is k d) xs ys

all : (is : List Instr) (xs ys : ℕ) → EachHasTargets is xs ys → AllHaveTargets is xs ys
all [] xs ys h = tt
all (i ∷ is) xs ys h = (h zero i (omega arith), λ e. all is xs ys (λ k d l. h (suc k) d (omega arith)))

-- those from a place on, which are each some's
pub all-from : (is : List Instr) (at xs ys : ℕ) → ((k : ℕ) (d : Instr) → at ≤ k → k < length is → HasTargets (get_or is k d) xs ys) → AllHaveTargets (drop at is) xs ys
all-from is zero xs ys h = all is xs ys (λ k d l. h k d (omega arith) l)
all-from [] (suc n) xs ys h = tt
all-from (i ∷ is) (suc n) xs ys h = all-from is n xs ys (λ k d a l. h (suc k) d (omega arith) (omega arith))
