-- The two arguments of a structure, one after the other.
use Rattle.std.proofs.Common.{◌≡◌, ℕ, suc, ◌+◌, ◌≤◌, Bool, true, false, List, length, drop, slice_get, Some, refl, sym, subst, arith}
use Rattle.std.proofs.lemmas.Bool.{false≢true}
use Rattle.ap_cells.specs.declared.cells.Raw.{Raw}
use Rattle.ap_instr.specs.declared.instruction.Instr.{Instr}
use Rattle.ap_instr.specs.Code.{Compiled}
use Rattle.ap_instr.specs.Step.{Step, step_of}
use Rattle.ap_instr.specs.Steps.{steps_from, skipped}
use Rattle.ap_instr.specs.Runs.{spread}
use Rattle.ap_instr.proofs.Steps.{steps_law}
use Rattle.ap_needs.specs.Needs.{is_control, is_value, has_value, HasTargets, AllHaveTargets}
use Rattle.ap_needs.proofs.Places.{steps-next}
use Rattle.ap_steps.specs.Arguments.{AskedInside, Built, BuiltOr, BuiltAll, BuiltOrStuck, IsStuckInside, are_built}
use Rattle.ap_steps.specs.declared.arguments.Parts.{Parts}
use Rattle.ap_steps.specs.declared.arguments.Parts.TheVariants.{Fresh, Values, Stuck}
use Rattle.ap_steps.specs.Found.{MovesInside, IsStuckBefore, Matched, MatchedAll}
use Rattle.ap_steps.specs.Ways.{NoneOfControl}
use Rattle.ap_steps.proofs.Places.{plain-transfer, targets-here, none-more, value-among}
use Rattle.ap_steps.proofs.Finding.{MovesInside-trans, MovesInside-stuck}
use Rattle.ap_steps.proofs.StructureSteps.{BuiltAll-more, BuiltAll-stuck}

-- none is built yet
BuiltAll-none : (cs : List Raw) (x y : ℕ → ℕ) (js : List Step) → BuiltAll 0 cs x y js cs x y js
BuiltAll-none cs x y js = record {
  longer = omega arith;
  forth = λ l m total bs e h.
      let q : length cs ≡ length cs + 0 = omega arith in
      let t : total ≡ m = omega arith in
      subst (λ n. AskedInside cs x y js (spread l n m) l bs) q (subst (λ n. AskedInside cs x y js (spread l (length cs) n) l bs) t h);
  back = λ l m total bs e h.
      let q : length cs + 0 ≡ length cs = omega arith in
      let t : m ≡ total = omega arith in
      subst (λ n. AskedInside cs x y js (spread l (length cs) n) l bs) t (subst (λ n. AskedInside cs x y js (spread l n m) l bs) q h);
}

module _ (code : Compiled) (at count : ℕ) (is_two : count ≡ 2) (one two : Instr) (here : slice_get code.instructions at ≡ Some one) (next : slice_get code.instructions (at + 1) ≡ Some two) where
  at_none : at ≡ at + 0
  at_none = omega arith

  begins : slice_get code.instructions (at + 0) ≡ Some one
  begins = subst (λ n. slice_get code.instructions n ≡ Some one) at_none here

  pub pair-targets : (xs ys : ℕ) → AllHaveTargets (drop at code.instructions) xs ys → HasTargets one xs ys
  pair-targets xs ys h = (targets-here code.instructions at xs ys one here h).0

  pub pair-targets-next : (xs ys : ℕ) → is_control one ≡ false → AllHaveTargets (drop at code.instructions) xs ys → HasTargets two xs ys
  pair-targets-next xs ys plain h = (targets-here code.instructions (at + 1) xs ys two next ((targets-here code.instructions at xs ys one here h).1 plain)).0

  pub pair-value : is_value one ≡ true → has_value code.instructions at count ≡ true
  pair-value v = value-among code.instructions at 0 one begins count (omega arith) v

  pub pair-value-next : is_value two ≡ true → has_value code.instructions at count ≡ true
  pair-value-next v = value-among code.instructions at 1 two next count (omega arith) v

  pub pair-passed : is_control one ≡ false → is_control two ≡ false → NoneOfControl code.instructions at count
  pair-passed a b =
      let q : 1 + 1 ≡ count = omega arith in
      subst (NoneOfControl code.instructions at) q (none-more code.instructions at 1 two (none-more code.instructions at 0 one (λ k l. absurd (omega arith)) begins a) next b)

  -- ---- a structure that is there

  module _ (p : ℕ) (cs ds es : List Raw) (x y x' y' x'' y'' : ℕ → ℕ) (inside : p + count ≤ length cs) where
    pub pair-stuck : Matched cs x y (step_of code one) p ds x' y' false → IsStuckBefore cs x y (steps_from code at) p count
    pair-stuck never =
        let n : suc 1 ≡ count = omega arith in
        subst (IsStuckBefore cs x y (steps_from code at) p) n
        (subst (λ js. IsStuckBefore cs x y js p (suc 1)) (sym (steps_law code at one here)) (never 1 (steps_from code (at + 1 + skipped one at)) (omega arith)))

    module _ (plain : is_control one ≡ false) (len : length ds ≡ length cs) (first : Matched cs x y (step_of code one) p ds x' y' true) where
      begun : MovesInside cs x y (steps_from code at) p count ds x' y' (steps_from code (at + 1)) (p + 1) 1
      begun =
          let n : suc 1 ≡ count = omega arith in
          subst (λ n. MovesInside cs x y (steps_from code at) p n ds x' y' (steps_from code (at + 1)) (p + 1) 1) n
          (subst (λ js. MovesInside cs x y js p (suc 1) ds x' y' (steps_from code (at + 1)) (p + 1) 1) (sym (steps-next code at one here (plain-transfer one plain))) (first 1 (steps_from code (at + 1)) (omega arith)))

      pub pair-matched : (b : Bool) → (b ≡ true → is_control two ≡ false) → Matched ds x' y' (step_of code two) (p + 1) es x'' y'' b → MatchedAll code at p count cs x y es x'' y'' b
      pair-matched true plain_two second =
          let a : at + 1 + 1 ≡ at + count = omega arith in
          let q : p + 1 + 1 ≡ p + count = omega arith in
          subst (λ a. MovesInside cs x y (steps_from code at) p count es x'' y'' (steps_from code a) (p + count) 0) a
          (subst (λ q. MovesInside cs x y (steps_from code at) p count es x'' y'' (steps_from code (at + 1 + 1)) q 0) q
          (MovesInside-trans cs ds es x y x' y' x'' y'' (steps_from code at) (steps_from code (at + 1)) (steps_from code (at + 1 + 1)) p count (p + 1) 1 (p + 1 + 1) 0 begun
          (subst (λ js. MovesInside ds x' y' js (p + 1) 1 es x'' y'' (steps_from code (at + 1 + 1)) (p + 1 + 1) 0) (sym (steps-next code (at + 1) two next (plain-transfer two (plain_two refl)))) (second 0 (steps_from code (at + 1 + 1)) (omega arith)))))
      pair-matched false plain_two second =
          MovesInside-stuck cs ds x y x' y' (steps_from code at) (steps_from code (at + 1)) p count (p + 1) 1 begun
          (subst (λ js. IsStuckBefore ds x' y' js (p + 1) 1) (sym (steps_law code (at + 1) two next)) (second 0 (steps_from code (at + 1 + 1 + skipped two (at + 1))) (omega arith)))

  -- ---- a structure that is built

  module _ (cs ds es : List Raw) (x y x' y' x'' y'' : ℕ → ℕ) (whole : ℕ) where
    pub pair-unbuilt : BuiltOr whole cs x y (step_of code one) ds x' y' false → IsStuckInside whole count cs x y (steps_from code at)
    pair-unbuilt never =
        BuiltAll-stuck whole 0 count cs cs ds x y x y x' y' (steps_from code at) (steps_from code (at + 1 + skipped one at)) (step_of code one) (omega arith)
        (subst (BuiltAll 0 cs x y (steps_from code at) cs x y) (steps_law code at one here) (BuiltAll-none cs x y (steps_from code at))) never

    module _ (plain : is_control one ≡ false) (first : Built cs x y (step_of code one) ds x' y') where
      started : BuiltAll 1 cs x y (steps_from code at) ds x' y' (steps_from code (at + 1))
      started =
          BuiltAll-more 0 cs cs ds x y x y x' y' (steps_from code at) (steps_from code (at + 1)) (step_of code one)
          (subst (BuiltAll 0 cs x y (steps_from code at) cs x y) (steps-next code at one here (plain-transfer one plain)) (BuiltAll-none cs x y (steps_from code at))) first

      pub pair-built : (b : Bool) → whole ≡ length cs + count → (b ≡ true → is_control two ≡ false) → BuiltOr whole ds x' y' (step_of code two) es x'' y'' b → BuiltOrStuck code at count cs x y es x'' y'' b
      pair-built true e plain_two second =
          let a : at + 1 + 1 ≡ at + count = omega arith in
          let n : 1 + 1 ≡ count = omega arith in
          subst (λ a. BuiltAll count cs x y (steps_from code at) es x'' y'' (steps_from code a)) a
          (subst (λ n. BuiltAll n cs x y (steps_from code at) es x'' y'' (steps_from code (at + 1 + 1))) n
          (BuiltAll-more 1 cs ds es x y x' y' x'' y'' (steps_from code at) (steps_from code (at + 1 + 1)) (step_of code two)
          (subst (BuiltAll 1 cs x y (steps_from code at) ds x' y') (steps-next code (at + 1) two next (plain-transfer two (plain_two refl))) started) second))
      pair-built false e plain_two second =
          subst (λ w. IsStuckInside w count cs x y (steps_from code at)) e
          (BuiltAll-stuck whole 1 count cs ds es x y x' y' x'' y'' (steps_from code at) (steps_from code (at + 1 + 1 + skipped two (at + 1))) (step_of code two) (omega arith)
          (subst (BuiltAll 1 cs x y (steps_from code at) ds x' y') (steps_law code (at + 1) two next) started) second)

-- what an argument was built from, where it was
pub parts-known : (parts : Parts) → are_built parts ≡ true → (P : Type 0) → (parts ≡ Fresh → P) → (parts ≡ Values → P) → P
parts-known Fresh ok P a b = a refl
parts-known Values ok P a b = b refl
parts-known Stuck ok P a b = absurd (false≢true ok)
