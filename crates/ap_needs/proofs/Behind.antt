-- What is known of code's places, where it stands alone and other code goes on behind it.
use Rattle.std.proofs.Common.{◌≡◌, ℕ, zero, suc, ◌+◌, ◌<◌, ◌≤◌, Bool, true, false, ◌||◌, List, [], ◌∷◌, ◌++◌, length, take, drop, slice_get, slice_index_or, get_or, Some, None, ◌⊎◌, inl, inr, refl, ap, sym, ◌∙◌, subst, arith}
use Rattle.std.specs.Prelude.{if◌then◌else◌}
use Rattle.std.specs.List.{list_all, list_any}
use Rattle.std.proofs.lemmas.Bool.{and_parts, cases_lt}
use Rattle.std.proofs.lemmas.List.{take-append-drop, take-append-le, drop-append-le, length-take, get_or-take}
use Rattle.std.proofs.lemmas.Option.{slice_get-get_or}
use Rattle.ap_instr.specs.declared.compiled.Predicate.{Predicate}
use Rattle.ap_instr.specs.declared.instruction.Slot.{Slot}
use Rattle.ap_instr.specs.declared.instruction.Slot.TheVariants.{X, Y}
use Rattle.ap_instr.specs.declared.instruction.Instr.{Instr}
use Rattle.ap_instr.specs.declared.instruction.Instr.TheVariants.{GetVariable, GetValue, GetStructure, PutVariable, PutValue, PutConstant, PutInteger, PutStructure, UnifyVariable, Execute, Proceed}
use Rattle.ap_instr.specs.Code.{Compiled}
use Rattle.ap_needs.specs.declared.room.Room.{Room}
use Rattle.ap_needs.specs.declared.widths.Widths.{Widths}
use Rattle.ap_needs.specs.Behind.{Begins, is_end, is_ended, StandsAlone}
use Rattle.ap_needs.specs.Needs.{is_control, is_transfer, is_value, cells_of, room, wants_memory, wants, IsRoomOf, HasRegister, HasTargets, AllHaveTargets, AreWidthsOf}

-- ---- lists, one of which begins with the other

pub begun-is : {A : Type 0} (xs ys : List A) → take (length xs) ys ≡ xs → ys ≡ xs ++ drop (length xs) ys
begun-is xs ys b = sym (take-append-drop (length xs) ys) ∙ ap (λ zs. zs ++ drop (length xs) ys) b

pub begun-length : {A : Type 0} (xs ys : List A) → take (length xs) ys ≡ xs → length xs ≤ length ys
begun-length xs ys b = let e = ap length b in let m = length-take (length xs) ys in omega (arith, e, m)

pub begun-get : {A : Type 0} (xs ys : List A) (n : ℕ) (x : A) → take (length xs) ys ≡ xs → slice_get xs n ≡ Some x → slice_get ys n ≡ Some x
begun-get [] ys n x b e = absurd (let z : ⊥ = cc in z)
begun-get (w ∷ xs) [] n x b e = absurd (let z : ⊥ = cc in z)
begun-get (w ∷ xs) (y ∷ ys) zero x b e = let q : y ≡ w = cc in ap Some q ∙ e
begun-get (w ∷ xs) (y ∷ ys) (suc n) x b e = begun-get xs ys n x (let q : take (length xs) ys ≡ xs = cc in q) e

pub begun-same : {A : Type 0} (xs ys : List A) (n : ℕ) → take (length xs) ys ≡ xs → n < length xs → slice_get xs n ≡ slice_get ys n
begun-same [] ys n b l = absurd (omega arith)
begun-same (w ∷ xs) [] n b l = absurd (let z : ⊥ = cc in z)
begun-same (w ∷ xs) (y ∷ ys) zero b l = let q : w ≡ y = cc in ap Some q
begun-same (w ∷ xs) (y ∷ ys) (suc n) b l = begun-same xs ys n (let q : take (length xs) ys ≡ xs = cc in q) (omega arith)

pub begun-drop : {A : Type 0} (xs ys : List A) (n : ℕ) → take (length xs) ys ≡ xs → n ≤ length xs → drop n ys ≡ drop n xs ++ drop (length xs) ys
begun-drop xs ys n b l = ap (drop n) (begun-is xs ys b) ∙ drop-append-le n xs (drop (length xs) ys) l

-- what begins with a list begins with a beginning of that
pub begun-trans : {A : Type 0} (xs ys zs : List A) → take (length xs) ys ≡ xs → take (length ys) zs ≡ ys → take (length xs) zs ≡ xs
begun-trans [] ys zs b d = refl
begun-trans (x ∷ xs) [] zs b d = absurd (let z : ⊥ = cc in z)
begun-trans (x ∷ xs) (y ∷ ys) [] b d = absurd (let z : ⊥ = cc in z)
begun-trans (x ∷ xs) (y ∷ ys) (z ∷ zs) b d =
    let rest : take (length xs) zs ≡ xs = begun-trans xs ys zs (let q : take (length xs) ys ≡ xs = cc in q) (let q : take (length ys) zs ≡ ys = cc in q) in
    let first : z ≡ x = cc in
    ap (λ w. w ∷ take (length xs) zs) first ∙ ap (λ ws. x ∷ ws) rest

pub drop-none : {A : Type 0} (n : ℕ) → drop {A = A} n [] ≡ []
drop-none zero = refl
drop-none (suc n) = refl

pub drop-some : {A : Type 0} (xs : List A) (n : ℕ) → n < length xs → 0 < length (drop n xs)
drop-some [] n l = absurd (omega arith)
drop-some (x ∷ xs) zero l = omega arith
drop-some (x ∷ xs) (suc n) l = drop-some xs n (omega arith)

-- what holds of all holds of each
pub all-got : {A : Type 0} (p : A → Bool) (xs : List A) (n : ℕ) (x : A) → list_all p xs ≡ true → slice_get xs n ≡ Some x → p x ≡ true
all-got p [] n x h e = absurd (let z : ⊥ = cc in z)
all-got p (y ∷ ys) zero x h e = let q : y ≡ x = cc in let r = (and_parts (p y) (list_all p ys) h).0 in cc
all-got p (y ∷ ys) (suc n) x h e = all-got p ys n x (and_parts (p y) (list_all p ys) h).1 e

-- ---- instructions at the end

pub ended-last : (is : List Instr) (n : ℕ) (i : Instr) → slice_get is n ≡ Some i → n + 1 ≡ length is → is_end i ≡ true → is_ended is ≡ true
ended-last [] n i e l h = absurd (let z : ⊥ = cc in z)
ended-last (j ∷ []) zero i e l h = let q : j ≡ i = cc in ap is_end q ∙ h
ended-last (j ∷ []) (suc n) i e l h = absurd (let z : ⊥ = cc in z)
ended-last (j ∷ (k ∷ is)) zero i e l h = absurd (omega arith)
ended-last (j ∷ (k ∷ is)) (suc n) i e l h = ended-last (k ∷ is) n i e (omega arith) h

pub ended-drop : (is : List Instr) (n : ℕ) → is_ended is ≡ true → is_ended (drop n is) ≡ true
ended-drop is zero e = e
ended-drop [] (suc n) e = refl
ended-drop (i ∷ []) (suc n) e = ap is_ended (drop-none n)
ended-drop (i ∷ (j ∷ is)) (suc n) e = ended-drop (j ∷ is) n e

end-transfers : (i : Instr) → is_end i ≡ true → is_transfer i ≡ true
end-transfers (Execute q) e = refl
end-transfers Proceed e = refl
end-transfers i e = absurd (let z : ⊥ = cc in z)

end-controls : (i : Instr) → is_end i ≡ true → is_control i ≡ false → ⊥
end-controls (Execute q) e h = cc
end-controls Proceed e h = cc
end-controls i e h = cc

-- ---- cells

room-behind : (is js : List Instr) → is_ended is ≡ true → 0 < length is → room (is ++ js) ≡ room is
room-behind [] js e l = absurd (omega arith)
room-behind (i ∷ []) js e l =
    let none : (n : ℕ) → (if is_transfer i then 0 else cells_of i + n) ≡ 0 = λ n. ap (λ b. if b then 0 else cells_of i + n) (end-transfers i e) in none (room js) ∙ sym (none 0)
room-behind (i ∷ (j ∷ is)) js e l = ap (λ n. if is_transfer i then 0 else cells_of i + n) (room-behind (j ∷ is) js e (omega arith))

-- ---- memory

-- the arguments of each structure that is read stand among the instructions
abbrev HoldStructures : List Instr → Type 0
HoldStructures is = (k f n a : ℕ) → slice_get is k ≡ Some (GetStructure f n a) → k + n < length is

holds-drop : (is : List Instr) (n : ℕ) → HoldStructures is → HoldStructures (drop n is)
holds-drop is zero h = h
holds-drop [] (suc n) h = λ k f m a e. absurd (let q = drop-none {A = Instr} n in let z : ⊥ = cc in z)
holds-drop (i ∷ is) (suc n) h = holds-drop is n (λ k f m a e. let l = h (suc k) f m a e in omega (arith, l))

wants_memory-behind : (i : Instr) (is js : List Instr) → ((f n a : ℕ) → i ≡ GetStructure f n a → n ≤ length is) → wants_memory i (is ++ js) ≡ wants_memory i is
wants_memory-behind (GetValue v a) is js h = refl
wants_memory-behind (GetStructure f n a) is js h = ap (list_any is_value) (take-append-le n is js (h f n a refl))
wants_memory-behind i is js h = refl

wants-behind : (is js : List Instr) → is_ended is ≡ true → HoldStructures is → 0 < length is → wants (is ++ js) ≡ wants is
wants-behind [] js e h l = absurd (omega arith)
wants-behind (i ∷ []) js e h l =
    let none : (b : Bool) → (if is_transfer i then false else b) ≡ false = λ b. ap (λ t. if t then false else b) (end-transfers i e) in
    none (wants_memory i js || wants js) ∙ sym (none (wants_memory i [] || false))
wants-behind (i ∷ (j ∷ is)) js e h l =
    let here : wants_memory i ((j ∷ is) ++ js) ≡ wants_memory i (j ∷ is) = wants_memory-behind i (j ∷ is) js (λ f n a q. let m = h zero f n a (ap Some q) in omega (arith, m)) in
    let rest : wants ((j ∷ is) ++ js) ≡ wants (j ∷ is) = wants-behind (j ∷ is) js e (λ k f n a q. let m = h (suc k) f n a q in omega (arith, m)) (omega arith) in
    ap (λ b. if is_transfer i then false else b || wants ((j ∷ is) ++ js)) here ∙ ap (λ b. if is_transfer i then false else wants_memory i (j ∷ is) || b) rest

-- ---- registers

targets-behind : (is js : List Instr) (xs ys : ℕ) → is_ended is ≡ true → 0 < length is → AllHaveTargets is xs ys → AllHaveTargets (is ++ js) xs ys
targets-behind [] js xs ys e l h = absurd (omega arith)
targets-behind (i ∷ []) js xs ys e l h = (h.0, λ on. absurd (end-controls i e on))
targets-behind (i ∷ (j ∷ is)) js xs ys e l h = (h.0, λ on. targets-behind (j ∷ is) js xs ys e (omega arith) (h.1 on))

module _ (xs ys us vs : ℕ) (wide : xs ≤ us) (high : ys ≤ vs) where
  register-wider : (v : Slot) → HasRegister v xs ys → HasRegister v us vs
  register-wider (X n) h = omega arith
  register-wider (Y n) h = omega arith

  target-wider : (i : Instr) → HasTargets i xs ys → HasTargets i us vs
  target-wider (GetVariable v a) h = register-wider v h
  target-wider (PutVariable v a) h = (register-wider v h.0, let l = h.1 in omega (arith, l))
  target-wider (PutValue v a) h = omega arith
  target-wider (PutConstant c a) h = omega arith
  target-wider (PutInteger i a) h = omega arith
  target-wider (PutStructure f n a) h = omega arith
  target-wider (UnifyVariable v) h = register-wider v h
  target-wider i h = tt

  targets-wider : (is : List Instr) → AllHaveTargets is xs ys → AllHaveTargets is us vs
  targets-wider [] h = tt
  targets-wider (i ∷ is) h = (target-wider i h.0, λ on. targets-wider is (h.1 on))

-- ---- code that goes on behind other code

module _ (base code : Compiled) (begins : Begins base code) (alone : StandsAlone base) where
  behind : (at : ℕ) → at < length base.instructions → drop at code.instructions ≡ drop at base.instructions ++ drop (length base.instructions) code.instructions
  behind at l = begun-drop base.instructions code.instructions at begins.instructions (omega arith)

  pub room-same : (at : ℕ) → at < length base.instructions → room (drop at code.instructions) ≡ room (drop at base.instructions)
  room-same at l = ap room (behind at l) ∙ room-behind (drop at base.instructions) _ (ended-drop base.instructions at alone.ended) (drop-some base.instructions at l)

  pub wants-same : (at : ℕ) → at < length base.instructions → wants (drop at code.instructions) ≡ wants (drop at base.instructions)
  wants-same at l =
      ap wants (behind at l)
      ∙ wants-behind (drop at base.instructions) _ (ended-drop base.instructions at alone.ended) (holds-drop base.instructions at (λ k f n a e. alone.names k (GetStructure f n a) e)) (drop-some base.instructions at l)

  pub targets-still : (at xs ys us vs : ℕ) → at < length base.instructions → xs ≤ us → ys ≤ vs → AllHaveTargets (drop at base.instructions) xs ys → AllHaveTargets (drop at code.instructions) us vs
  targets-still at xs ys us vs l wide high h =
      subst (λ is. AllHaveTargets is us vs) (sym (behind at l))
      (targets-behind (drop at base.instructions) _ us vs (ended-drop base.instructions at alone.ended) (drop-some base.instructions at l) (targets-wider xs ys us vs wide high (drop at base.instructions) h))

  -- what runs need, where what those from the further places on need was put in
  pub grown-room : (old new : Room) (more : ℕ) → IsRoomOf base old → length new.wanting.items ≡ length code.instructions → take (length old.wanting.items) new.wanting.items ≡ old.wanting.items
      → ((at : ℕ) → length old.wanting.items ≤ at → slice_index_or new.wanting.items at false ≡ wants (drop at code.instructions)) → ((at : ℕ) → length old.wanting.items ≤ at → room (drop at code.instructions) ≤ more)
      → old.cells ≤ new.cells → more ≤ new.cells → IsRoomOf code new
  grown-room old new more h len same each most cells more_cells = record {
    cells = λ at. few at (cases_lt at (length base.instructions));
    places = len;
    wanting = λ at. wanted at (cases_lt at (length base.instructions));
  }
    where
      few : (at : ℕ) → (at < length base.instructions) ⊎ (length base.instructions ≤ at) → room (drop at code.instructions) ≤ new.cells
      few at (inl l) = let e = room-same at l in let m = h.cells at in omega (arith, e, m)
      few at (inr l) = let p = h.places in let m = most at (omega (arith, p)) in omega (arith, m)

      wanted : (at : ℕ) → (at < length base.instructions) ⊎ (length base.instructions ≤ at) → slice_index_or new.wanting.items at false ≡ wants (drop at code.instructions)
      wanted at (inl l) =
          let p = h.places in
          sym (get_or-take (length old.wanting.items) new.wanting.items at false (omega (arith, p)))
          ∙ ap (λ ws. slice_index_or ws at false) same
          ∙ h.wanting at
          ∙ sym (wants-same at l)
      wanted at (inr l) = let p = h.places in each at (omega (arith, p))

  -- the registers that are written, where those that are written from the further places on were put in
  pub grown-widths : (old new : Widths) → AreWidthsOf base old → ((at : ℕ) → length base.instructions ≤ at → AllHaveTargets (drop at code.instructions) new.x new.y)
      → ((n : ℕ) (q : Predicate) → length base.predicates ≤ n → slice_get code.predicates n ≡ Some q → q.arity < new.x) → old.x ≤ new.x → old.y ≤ new.y → AreWidthsOf code new
  grown-widths old new h each arities wide high = record {
    targets = λ at. written at (cases_lt at (length base.instructions));
    arities = λ n q e. within n q e (cases_lt n (length base.predicates));
  }
    where
      written : (at : ℕ) → (at < length base.instructions) ⊎ (length base.instructions ≤ at) → AllHaveTargets (drop at code.instructions) new.x new.y
      written at (inl l) = targets-still at old.x old.y new.x new.y l wide high (h.targets at)
      written at (inr l) = each at l

      within : (n : ℕ) (q : Predicate) → slice_get code.predicates n ≡ Some q → (n < length base.predicates) ⊎ (length base.predicates ≤ n) → q.arity < new.x
      within n q e (inl l) =
          let here : slice_get base.predicates n ≡ Some (get_or base.predicates n q) = slice_get-get_or base.predicates n q l in
          let there : slice_get code.predicates n ≡ Some (get_or base.predicates n q) = begun-get base.predicates code.predicates n _ begins.predicates here in
          let same : get_or base.predicates n q ≡ q = cc in
          let low = h.arities n q (here ∙ ap Some same) in
          omega (arith, low)
      within n q e (inr l) = arities n q l e

-- ---- code without places

abbrev pub nothing : Compiled
nothing = record { instructions = []; integers = []; predicates = []; query = None }

pub nothing-begins : (code : Compiled) → Begins nothing code
nothing-begins code = record { instructions = refl; integers = refl; predicates = refl }

pub nothing-alone : StandsAlone nothing
nothing-alone = record { names = λ at i e. absurd (let z : ⊥ = cc in z); ended = refl }

none-targets : (at xs ys : ℕ) → AllHaveTargets (drop at []) xs ys
none-targets zero xs ys = tt
none-targets (suc at) xs ys = tt

pub nothing-widths : (w : Widths) → AreWidthsOf nothing w
nothing-widths w = record { targets = λ at. none-targets at w.x w.y; arities = λ n q e. absurd (let z : ⊥ = cc in z) }

pub nothing-room : (r : Room) → r.wanting.items ≡ [] → IsRoomOf nothing r
nothing-room r e = record {
  cells = λ at. let q : room (drop at []) ≡ 0 = ap room (drop-none at) in omega (arith, q);
  places = ap length e;
  wanting = λ at. ap (λ ws. slice_index_or ws at false) e ∙ sym (ap wants (drop-none at));
}
