-- What clauses ask of their first argument, instruction by instruction.
use Rattle.std.proofs.Common.{◌≡◌, ℕ, zero, suc, ◌+◌, ◌≤◌, Bool, true, false, List, [], ◌∷◌, length, drop, slice_get, Some, None, refl, ap, ◌∙◌, arith}
use Rattle.std.specs.Prelude.{if◌then◌else◌}
use Rattle.ap_instr.specs.declared.instruction.Instr.{Instr}
use Rattle.ap_instr.specs.Code.{Compiled}
use Rattle.ap_index.specs.Keys.{leaves_first, asked_key, first_key, key_at}
use Rattle.ap_term.proofs.Lists.{drop-past, drop-here}

pub drop_beyond : {A : Type 0} (xs : List A) (n : ℕ) → length xs ≤ n → drop n xs ≡ []
drop_beyond [] zero l = refl
drop_beyond [] (suc n) l = refl
drop_beyond (y ∷ ys) zero l = absurd (omega arith)
drop_beyond (y ∷ ys) (suc n) l = drop_beyond ys n (omega arith)

module _ (code : Compiled) (at : ℕ) where
  here : (b : Bool) (i : Instr) → slice_get code.instructions at ≡ Some i → leaves_first i ≡ b → key_at code at ≡ (if b then key_at code (at + 1) else asked_key code i)
  here b i s e = ap (first_key code) (drop-here code.instructions at i s) ∙ ap (λ b. if b then key_at code (at + 1) else asked_key code i) e

  pub key-further : (i : Instr) → slice_get code.instructions at ≡ Some i → leaves_first i ≡ true → key_at code at ≡ key_at code (at + 1)
  key-further i s e = here true i s e

  pub key-here : (i : Instr) → slice_get code.instructions at ≡ Some i → leaves_first i ≡ false → key_at code at ≡ asked_key code i
  key-here i s e = here false i s e

  pub key-past : slice_get code.instructions at ≡ None → key_at code at ≡ None
  key-past s = ap (first_key code) (drop-past code.instructions at s)

  pub key-beyond : length code.instructions ≤ at → key_at code at ≡ None
  key-beyond l = ap (first_key code) (drop_beyond code.instructions at l)
