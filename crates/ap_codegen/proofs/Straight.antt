-- Instructions that stand one behind another without a jump, a check or a group among them.
use Rattle.std.proofs.Common.{◌≡◌, ℕ, zero, suc, ◌+◌, Bool, true, false, List, [], ◌∷◌, ◌++◌, length, Some, ap, ◌∙◌, subst, arith}
use Rattle.std.specs.List.{list_all, slice_get}
use Rattle.ap_instr.specs.declared.instruction.Instr.{Instr}
use Rattle.ap_instr.specs.Code.{Compiled}
use Rattle.ap_instr.specs.Step.{Step, jump, check_ground, check_indep, group}
use Rattle.ap_instr.specs.Groups.{otherwise, rest_of, AsksUnmarked}
use Rattle.ap_codegen.specs.Assembled.{AreSequences}

-- whether a step goes on with the one behind it, and nowhere else
abbrev pub is_straight : Step → Bool
is_straight jump = false
is_straight (check_ground v) = false
is_straight (check_indep v w) = false
is_straight (group n) = false
is_straight _ = true

abbrev pub Straight : List Step → Type 0
Straight is = list_all is_straight is ≡ true

-- ---- sequences of instructions that stand one behind another

pub both_sequences : (code : Compiled) (at : ℕ) (is js : List Instr) → AreSequences code at is → AreSequences code (at + length is) js → AreSequences code at (is ++ js)
both_sequences code at [] js h k = let e : at + 0 ≡ at = omega arith in subst (λ n. AreSequences code n js) e k
both_sequences code at (i ∷ is) js h k =
    let e : at + suc (length is) ≡ at + 1 + length is = omega arith in
    (h.0, both_sequences code (at + 1) is js h.1 (subst (λ n. AreSequences code n js) e k))

pub sequence_at : (code : Compiled) (at : ℕ) (is : List Instr) (j l : ℕ) (i : Instr) → AreSequences code at is → slice_get is j ≡ Some i → otherwise i ≡ Some l → AsksUnmarked code (rest_of i (at + j)) l
sequence_at code at [] j l i h e o = cc
sequence_at code at (k ∷ is) zero l i h e o =
    let same : k ≡ i = cc in
    let n : at ≡ at + 0 = omega arith in
    subst (λ n. AsksUnmarked code (rest_of i n) l) n (subst (λ k. AsksUnmarked code (rest_of k at) l) same (h.0 l (ap otherwise same ∙ o)))
sequence_at code at (k ∷ is) (suc j) l i h e o =
    let n : at + 1 + j ≡ at + suc j = omega arith in
    subst (λ n. AsksUnmarked code (rest_of i n) l) n (sequence_at code (at + 1) is j l i h.1 e o)
