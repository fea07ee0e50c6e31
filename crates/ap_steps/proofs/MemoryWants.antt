-- Runs that may want memory.
use Rattle.std.proofs.Common.{◌≡◌, ℕ, zero, suc, ◌+◌, true, false, ◌||◌, if◌then◌else◌, List, drop, slice_get, Some, refl, ap, ◌∙◌, arith}
use Rattle.std.proofs.lemmas.Bool.{or_right}
use Rattle.ap_instr.specs.declared.instruction.Instr.{Instr}
use Rattle.ap_instr.specs.declared.instruction.Instr.TheVariants.{GetValue, GetStructure}
use Rattle.ap_needs.specs.Needs.{is_transfer, wants_memory, wants}
use Rattle.ap_steps.specs.Ways.{NoneOfControl}
use Rattle.ap_steps.proofs.Places.{plain-transfer}
use Rattle.ap_term.proofs.Lists.{drop-here}

wants-here : (is : List Instr) (at : ℕ) (i : Instr) → slice_get is at ≡ Some i → is_transfer i ≡ false → wants (drop at is) ≡ wants_memory i (drop (at + 1) is) || wants (drop (at + 1) is)
wants-here is at i e goes_on = ap wants (drop-here is at i e) ∙ ap (λ b. if b then false else wants_memory i (drop (at + 1) is) || wants (drop (at + 1) is)) goes_on

goes-on : (i : Instr) (is : List Instr) → wants_memory i is ≡ true → is_transfer i ≡ false
goes-on (GetValue v a) is e = refl
goes-on (GetStructure f n a) is e = refl
goes-on i is e = cc

-- the instruction at the place may want memory
pub wants-now : (is : List Instr) (at : ℕ) (i : Instr) → slice_get is at ≡ Some i → wants_memory i (drop (at + 1) is) ≡ true → wants (drop at is) ≡ true
wants-now is at i e w = wants-here is at i e (goes-on i (drop (at + 1) is) w) ∙ ap (λ b. b || wants (drop (at + 1) is)) w

-- one behind it may
pub wants-on : (is : List Instr) (at : ℕ) (i : Instr) → slice_get is at ≡ Some i → is_transfer i ≡ false → wants (drop (at + 1) is) ≡ true → wants (drop at is) ≡ true
wants-on is at i e goes_on w = wants-here is at i e goes_on ∙ or_right (wants_memory i (drop (at + 1) is)) (wants (drop (at + 1) is)) w

-- one behind some that are none of control may
pub wants-past : (is : List Instr) (at n : ℕ) → NoneOfControl is at n → wants (drop (at + n) is) ≡ true → wants (drop at is) ≡ true
wants-past is at zero none w = let q : at ≡ at + 0 = omega arith in ap (λ m. wants (drop m is)) q ∙ w
wants-past is at (suc n) none w =
    let last = none n (omega arith) in
    let q : at + n + 1 ≡ at + suc n = omega arith in
    wants-past is at n (λ k l. none k (omega arith)) (wants-on is (at + n) last.0 last.1 (plain-transfer last.0 last.2) (ap (λ m. wants (drop m is)) q ∙ w))
