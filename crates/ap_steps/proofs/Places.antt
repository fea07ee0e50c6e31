-- The instructions from a place of code on.
use Rattle.std.proofs.Common.{◌≡◌, ℕ, zero, suc, ◌+◌, ◌-◌, ◌<◌, ◌≤◌, true, false, if◌then◌else◌, List, length, take, drop, min, get_or, slice_get, Some, None, refl, sym, ap, ◌∙◌, subst, arith}
use Rattle.std.proofs.Math.Nat.{le-min, min-le_left, min-le_right}
use Rattle.std.proofs.lemmas.List.{get_or-drop, get_or-take, length-drop, length-take, length-take-le}
use Rattle.std.proofs.lemmas.List.Folds.{list_any_kept, list_any_at}
use Rattle.std.proofs.lemmas.Option.{slice_get_within, slice_get_past, slice_get-get_or, get_or_from_slice_get}
use borrow.Author.Count.{below_more}
use Rattle.ap_instr.specs.declared.instruction.Instr.{Instr}
use Rattle.ap_instr.specs.declared.instruction.Instr.TheVariants.{Allocate, Deallocate}
use Rattle.ap_needs.specs.Needs.{is_control, is_transfer, is_value, has_value, cells_of, room, HasTargets, AllHaveTargets}
use Rattle.ap_steps.specs.Ways.{NoneOfControl}
use Rattle.ap_term.proofs.Lists.{drop-here}

pub targets-here : (is : List Instr) (at xs ys : ℕ) (i : Instr) → slice_get is at ≡ Some i → AllHaveTargets (drop at is) xs ys → HasTargets i xs ys × (is_control i ≡ false → AllHaveTargets (drop (at + 1) is) xs ys)
targets-here is at xs ys i e h = subst (λ js. AllHaveTargets js xs ys) (drop-here is at i e) h

pub plain-transfer : (i : Instr) → is_control i ≡ false → is_transfer i ≡ false
plain-transfer (Allocate n) e = refl
plain-transfer Deallocate e = refl
plain-transfer i e = e

pub room-here : (is : List Instr) (at : ℕ) (i : Instr) → slice_get is at ≡ Some i → is_transfer i ≡ false → room (drop at is) ≡ cells_of i + room (drop (at + 1) is)
room-here is at i e goes_on = ap room (drop-here is at i e) ∙ ap (λ b. if b then 0 else cells_of i + room (drop (at + 1) is)) goes_on

-- ---- behind instructions none of which is of control

pub none-more : (is : List Instr) (at n : ℕ) (i : Instr) → NoneOfControl is at n → slice_get is (at + n) ≡ Some i → is_control i ≡ false → NoneOfControl is at (n + 1)
none-more is at n i before e plain = λ k l. below_more (λ k. (i : Instr) × (slice_get is (at + k) ≡ Some i) × (is_control i ≡ false)) n before (i, e, plain) k l

pub none-targets : (is : List Instr) (at n xs ys : ℕ) → NoneOfControl is at n → AllHaveTargets (drop at is) xs ys → AllHaveTargets (drop (at + n) is) xs ys
none-targets is at zero xs ys none h = let q : at ≡ at + 0 = omega arith in subst (λ m. AllHaveTargets (drop m is) xs ys) q h
none-targets is at (suc n) xs ys none h =
    let last = none n (omega arith) in
    let before : AllHaveTargets (drop (at + n) is) xs ys = none-targets is at n xs ys (λ k l. none k (omega arith)) h in
    let q : at + n + 1 ≡ at + suc n = omega arith in
    subst (λ m. AllHaveTargets (drop m is) xs ys) q ((targets-here is (at + n) xs ys last.0 last.1 before).1 last.2)

pub none-room : (is : List Instr) (at n : ℕ) → NoneOfControl is at n → room (drop (at + n) is) ≤ room (drop at is)
none-room is at zero none = let q : at + 0 ≡ at = omega arith in let r : room (drop (at + 0) is) ≡ room (drop at is) = ap (λ m. room (drop m is)) q in omega arith
none-room is at (suc n) none =
    let last = none n (omega arith) in
    let before : room (drop (at + n) is) ≤ room (drop at is) = none-room is at n (λ k l. none k (omega arith)) in
    let here : room (drop (at + n) is) ≡ cells_of last.0 + room (drop (at + n + 1) is) = room-here is (at + n) last.0 last.1 (plain-transfer last.0 last.2) in
    let q : at + n + 1 ≡ at + suc n = omega arith in
    let moved : room (drop (at + n + 1) is) ≡ room (drop (at + suc n) is) = ap (λ m. room (drop m is)) q in
    omega arith

-- ---- what registers hold among so many instructions

-- one more instruction
pub value-kept : (is : List Instr) (at n : ℕ) → has_value is at n ≡ true → has_value is at (n + 1) ≡ true
value-kept is at n h = list_any_kept is_value (drop at is) n h

module _ (is : List Instr) (at n : ℕ) (i : Instr) (here : slice_get is (at + n) ≡ Some i) where
  behind : n < length (drop at is)
  behind = let l : at + n < length is = slice_get_within is (at + n) i here in let q : length (drop at is) ≡ length is - at = length-drop at is in omega arith

  found : get_or (drop at is) n i ≡ i
  found = get_or-drop at is n i ∙ get_or_from_slice_get is (at + n) i i here

  pub value-among : (count : ℕ) → n < count → is_value i ≡ true → has_value is at count ≡ true
  value-among count less value =
      let all : length (take count (drop at is)) ≡ min count (length (drop at is)) = length-take count (drop at is) in
      let least : suc n ≤ min count (length (drop at is)) = le-min (omega arith) (let l : n < length (drop at is) = behind in omega arith) in
      list_any_at is_value (take count (drop at is)) n i (omega arith) (ap is_value (get_or-take count (drop at is) n i less ∙ found) ∙ value)

-- ---- the instructions from a place on: so many, or those up to the code's end

module _ (is : List Instr) (from count end i : ℕ) (ends : end ≡ min (length is) (from + count)) (inside : from ≤ length is) where
  part-length : length (take (end - from) (drop from is)) ≡ end - from
  part-length =
      let l : end ≤ length is = subst (λ n. n ≤ length is) (sym ends) (min-le_left (length is) (from + count)) in
      let d : length (drop from is) ≡ length is - from = length-drop from is in
      length-take-le (end - from) (drop from is) (omega arith)

  part-from : from ≤ end
  part-from = subst (λ n. from ≤ n) (sym ends) (le-min inside (omega arith))

  pub part-few : i < length (take (end - from) (drop from is)) → i < count
  part-few l =
      let q : length (take (end - from) (drop from is)) ≡ end - from = part-length in
      let r : end ≤ from + count = subst (λ n. n ≤ from + count) (sym ends) (min-le_right (length is) (from + count)) in
      omega arith

  -- each of them stands in the code
  pub part-item : (instr d : Instr) → instr ≡ get_or (take (end - from) (drop from is)) i d → i < length (take (end - from) (drop from is)) → slice_get is (from + i) ≡ Some instr
  part-item instr d e l =
      let q : length (take (end - from) (drop from is)) ≡ end - from = part-length in
      let few : end ≤ length is = subst (λ n. n ≤ length is) (sym ends) (min-le_left (length is) (from + count)) in
      let a : i < end - from = omega arith in
      slice_get-get_or is (from + i) d (omega arith) ∙ ap Some (sym (e ∙ get_or-take (end - from) (drop from is) i d a ∙ get_or-drop from is i d))

  -- behind the last one: so many were taken
  pub part-all : length (take (end - from) (drop from is)) ≤ i → i ≤ count → from + count ≤ end → i ≡ count
  part-all l few whole = let q : length (take (end - from) (drop from is)) ≡ end - from = part-length in omega arith

  -- or the code ends there
  pub part-past : length (take (end - from) (drop from is)) ≤ i → end < from + count → slice_get is (from + i) ≡ None
  part-past l short =
      let q : length (take (end - from) (drop from is)) ≡ end - from = part-length in
      let w : min (length is) (from + count) < from + count = subst (λ n. n < from + count) ends short in
      let e : length is ≤ end = subst (λ n. length is ≤ n) (sym ends) (omega arith) in
      slice_get_past is (from + i) (omega arith)

  pub part-within : i < length (take (end - from) (drop from is)) → i < end - from
  part-within l = let q : length (take (end - from) (drop from is)) ≡ end - from = part-length in omega arith

  -- fewer than so many were taken where the code ends before
  pub part-short : i ≤ end - from → end < from + count → i < count
  part-short l short = let w : from ≤ end = part-from in omega arith
