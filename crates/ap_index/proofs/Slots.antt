-- Slots of a row.
use Rattle.std.proofs.Common.{◌≡◌, ℕ, ◌<◌, Bool, true, false, ◌==◌, List, Option, Some, None, replicate, unwrap_or, get_or, refl, ap, ◌∙◌, arith}
use Rattle.std.specs.Prelude.{if◌then◌else◌}
use Rattle.std.specs.Option.{ForSome}
use Rattle.std.proofs.lemmas.List.{get_or-replicate}
use Rattle.std.proofs.lemmas.Bool.{eqb-true}
use Rattle.ap_index.specs.declared.key.Key.{Key}
use Rattle.ap_index.specs.declared.row.TheConstants.{NONE}
use Rattle.ap_index.specs.Hashing.{slot_of}

pub slot-below : (key : Key) (slots : ℕ) → 0 < slots → slot_of key slots < slots
unfolding slot_of
slot-below key slots some = grind arith

kept : (at : ℕ) (b : Bool) → (at == NONE) ≡ b → at < NONE → (if b then None else Some at) ≡ Some at
kept at false e l = refl
kept at true e l = absurd (omega (arith, eqb-true at NONE e))

none-or : (o : Option ℕ) → ForSome o (λ at. at < NONE) → (let at = unwrap_or o NONE in if at == NONE then None else Some at) ≡ o
none-or None h = refl
none-or (Some at) h = kept at (at == NONE) refl (h at refl)

-- each slot has what they were filled with
pub empty-slot : (o : Option ℕ) (slots : List ℕ) (n slot : ℕ) → ForSome o (λ at. at < NONE) → slots ≡ replicate n (unwrap_or o NONE) → slot < n → (let at = get_or slots slot NONE in if at == NONE then None else Some at) ≡ o
empty-slot o slots n slot h e l =
    ap (λ (at : ℕ). if at == NONE then None else Some at) (ap (λ xs. get_or xs slot NONE) e ∙ get_or-replicate n slot (unwrap_or o NONE) NONE l) ∙ none-or o h
