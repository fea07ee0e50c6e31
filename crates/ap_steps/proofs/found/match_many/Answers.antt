use Rattle.std.proofs.Common.{◌≡◌, ℕ, suc, ◌+◌, ◌-◌, ◌<◌, ◌≤◌, true, false, Ok, Err, length, slice_get, Some, None, ◌∷◌, sym, ◌∙◌, subst, arith, rules}
use Rattle.std.specs.Prelude.{OnErr}
use Rattle.std.proofs.lemmas.Option.{slice_get_within}
use Rattle.ap_cells.proofs.Stores.{Keeps-trans}
use Rattle.ap_instr.specs.Step.{step_of}
use Rattle.ap_instr.specs.Steps.{steps_from, skipped}
use Rattle.ap_instr.proofs.Steps.{steps_law, steps-past}
use Rattle.ap_needs.specs.Needs.{HasTargets, has_value}
use Rattle.ap_needs.proofs.Places.{steps-next}
use Rattle.ap_steps.specs.Moves.{held}
use Rattle.ap_steps.specs.Found.{MovesInside, Matched}
use Rattle.ap_steps.specs.Ways.{NoneOfControl}
use Rattle.ap_steps.proofs.Places.{part-item, part-few, part-all, part-past, plain-transfer, targets-here, none-more, none-targets, value-among}
use Rattle.ap_steps.proofs.Finding.{MovesInside-refl, MovesInside-trans, MovesInside-stuck, MovesInside-end}
use Rattle.ap_steps.proofs.found.match_many.Goals as goal

pub loop-instr-init : goal.loop-instr-init
loop-instr-init c =
    let at : c.args.at ≡ c.args.at + 0 = omega arith in
    let first : c.args.first ≡ c.args.first + 0 = omega arith in
    record {
      matched = λ m e. let n : c.args.count ≡ m = omega arith in
          subst (λ a. MovesInside c.args.cells.now.cells (held c.args.x.now) (held c.args.y.now) (steps_from c.args.code.now c.args.at) c.args.first c.args.count c.args.cells.now.cells (held c.args.x.now) (held c.args.y.now) (steps_from c.args.code.now a) (c.args.first + 0) m) at
          (subst (λ p. MovesInside c.args.cells.now.cells (held c.args.x.now) (held c.args.y.now) (steps_from c.args.code.now c.args.at) c.args.first c.args.count c.args.cells.now.cells (held c.args.x.now) (held c.args.y.now) (steps_from c.args.code.now c.args.at) p m) first
          (subst (λ n. MovesInside c.args.cells.now.cells (held c.args.x.now) (held c.args.y.now) (steps_from c.args.code.now c.args.at) c.args.first c.args.count c.args.cells.now.cells (held c.args.x.now) (held c.args.y.now) (steps_from c.args.code.now c.args.at) c.args.first n) n
          (MovesInside-refl c.args.cells.now.cells (held c.args.x.now) (held c.args.y.now) (steps_from c.args.code.now c.args.at) c.args.first c.args.count)));
      passed = λ k l. absurd (omega arith);
      inside = omega arith;
      place = omega arith;
      few = omega arith;
      longer = omega arith;
      holds_x = c.requires.holds_x;
      holds_y = c.requires.holds_y;
      x_len = search rules;
      y_len = search rules;
      spare = omega arith;
      keeps = search rules;
    }

pub match_argument-requires-clause-has : goal.match_argument-requires-clause-has
match_argument-requires-clause-has c =
    let v = c.loop-instr.invariant in
    let e : slice_get c.args.code.now.instructions (c.args.at + c.loop-instr.instr-index) ≡ Some c.instr-item.result = subst (λ is. slice_get is (c.args.at + c.loop-instr.instr-index) ≡ Some c.instr-item.result) c.instructions-instructions.ensures (part-item c.instructions-instructions.result.now c.args.at c.args.count c.min-end.result c.loop-instr.instr-index c.min-end.ensures c.if-prove.false c.instr-item.result _ c.instr-item.is c.loop-instr-test.true) in
    let h : HasTargets c.instr-item.result (length c.args.x.now) (length c.args.y.now) =
    (targets-here c.args.code.now.instructions (c.args.at + c.loop-instr.instr-index) (length c.args.x.now) (length c.args.y.now) c.instr-item.result e
    (none-targets c.args.code.now.instructions c.args.at c.loop-instr.instr-index (length c.args.x.now) (length c.args.y.now) v.passed c.requires.targets)).0
    in
    subst (λ n. HasTargets c.instr-item.result n (length c.loop-instr.y)) (sym v.x_len) (subst (HasTargets c.instr-item.result (length c.args.x.now)) (sym v.y_len) h)

pub returns-in_err-matched-clause-keeps : goal.returns-in_err-matched-clause-keeps
returns-in_err-matched-clause-keeps c = Keeps-trans c.args.cells.now c.loop-instr.cells c.match_argument.new.cells c.loop-instr.invariant.keeps c.match_argument.ensures.keeps

pub returns-then-not-matched-clause-keeps : goal.returns-then-not-matched-clause-keeps
returns-then-not-matched-clause-keeps c = Keeps-trans c.args.cells.now c.loop-instr.cells c.match_argument.new.cells c.loop-instr.invariant.keeps c.match_argument.ensures.keeps

pub returns-then-not-matched-clause-matched : goal.returns-then-not-matched-clause-matched
returns-then-not-matched-clause-matched c =
    let v = c.loop-instr.invariant in
    let few : c.loop-instr.instr-index < c.args.count = part-few c.instructions-instructions.result.now c.args.at c.args.count c.min-end.result c.loop-instr.instr-index c.min-end.ensures c.if-prove.false c.loop-instr-test.true in
    let m : ℕ = c.args.count - (c.loop-instr.instr-index + 1) in
    let e : slice_get c.args.code.now.instructions (c.args.at + c.loop-instr.instr-index) ≡ Some c.instr-item.result = subst (λ is. slice_get is (c.args.at + c.loop-instr.instr-index) ≡ Some c.instr-item.result) c.instructions-instructions.ensures (part-item c.instructions-instructions.result.now c.args.at c.args.count c.min-end.result c.loop-instr.instr-index c.min-end.ensures c.if-prove.false c.instr-item.result _ c.instr-item.is c.loop-instr-test.true) in
    let n : c.args.count ≡ c.loop-instr.instr-index + suc m = omega arith in
    MovesInside-stuck c.args.cells.now.cells c.loop-instr.cells.cells (held c.args.x.now) (held c.args.y.now) (held c.loop-instr.x) (held c.loop-instr.y) (steps_from c.args.code.now c.args.at) (step_of c.args.code.now c.instr-item.result ∷ steps_from c.args.code.now (c.args.at + c.loop-instr.instr-index + 1 + skipped c.instr-item.result (c.args.at + c.loop-instr.instr-index)))
    c.args.first c.args.count (c.args.first + c.loop-instr.instr-index) (suc m)
    (subst (λ is. MovesInside c.args.cells.now.cells (held c.args.x.now) (held c.args.y.now) (steps_from c.args.code.now c.args.at) c.args.first c.args.count c.loop-instr.cells.cells (held c.loop-instr.x) (held c.loop-instr.y) is (c.args.first + c.loop-instr.instr-index) (suc m))
    (steps_law c.args.code.now (c.args.at + c.loop-instr.instr-index) c.instr-item.result e) (v.matched (suc m) n))
    (subst (λ p. Matched c.loop-instr.cells.cells (held c.loop-instr.x) (held c.loop-instr.y) (step_of c.args.code.now c.instr-item.result) p c.match_argument.new.cells.cells (held c.match_argument.new.x) (held c.match_argument.new.y) false) v.place
    (subst (λ b. Matched c.loop-instr.cells.cells (held c.loop-instr.x) (held c.loop-instr.y) (step_of c.args.code.now c.instr-item.result) c.loop-instr.place c.match_argument.new.cells.cells (held c.match_argument.new.x) (held c.match_argument.new.y) b) c.if-not-matched.true c.in_ok-matched.ensures.matched) m (steps_from c.args.code.now (c.args.at + c.loop-instr.instr-index + 1 + skipped c.instr-item.result (c.args.at + c.loop-instr.instr-index))) (omega arith))

pub loop-instr-preserved : goal.loop-instr-preserved
loop-instr-preserved c =
    let v = c.loop-instr.invariant in
    let few : c.loop-instr.instr-index < c.args.count = part-few c.instructions-instructions.result.now c.args.at c.args.count c.min-end.result c.loop-instr.instr-index c.min-end.ensures c.if-prove.false c.loop-instr-test.true in
    let i : ℕ = c.loop-instr.instr-index in
    let at : ℕ = c.args.at in
    let first : ℕ = c.args.first in
    let e : slice_get c.args.code.now.instructions (at + i) ≡ Some c.instr-item.result = subst (λ is. slice_get is (c.args.at + c.loop-instr.instr-index) ≡ Some c.instr-item.result) c.instructions-instructions.ensures (part-item c.instructions-instructions.result.now c.args.at c.args.count c.min-end.result c.loop-instr.instr-index c.min-end.ensures c.if-prove.false c.instr-item.result _ c.instr-item.is c.loop-instr-test.true) in
    let behind : at + i + 1 ≡ at + (i + 1) = omega arith in
    let further : first + i + 1 ≡ first + (i + 1) = omega arith in
    let old = c.args.cells.now.cells in
    let mid = c.loop-instr.cells.cells in
    let new = c.match_argument.new.cells.cells in
    let x'' = held c.match_argument.new.x in
    let y'' = held c.match_argument.new.y in
    let js = steps_from c.args.code.now at in
    record {
      matched = λ m t.
          let n : c.args.count ≡ i + suc m = omega arith in
          subst (λ a. MovesInside old (held c.args.x.now) (held c.args.y.now) js first c.args.count new x'' y'' (steps_from c.args.code.now a) (first + (i + 1)) m) behind
          (subst (λ p. MovesInside old (held c.args.x.now) (held c.args.y.now) js first c.args.count new x'' y'' (steps_from c.args.code.now (at + i + 1)) p m) further
          (MovesInside-trans old mid new (held c.args.x.now) (held c.args.y.now) (held c.loop-instr.x) (held c.loop-instr.y) x'' y'' js (step_of c.args.code.now c.instr-item.result ∷ steps_from c.args.code.now (at + i + 1)) (steps_from c.args.code.now (at + i + 1))
          first c.args.count (first + i) (suc m) (first + i + 1) m
          (subst (λ is. MovesInside old (held c.args.x.now) (held c.args.y.now) js first c.args.count mid (held c.loop-instr.x) (held c.loop-instr.y) is (first + i) (suc m)) (steps-next c.args.code.now (at + i) c.instr-item.result e (plain-transfer c.instr-item.result (c.in_ok-matched.ensures.argument c.if-not-matched.false))) (v.matched (suc m) n))
          (subst (λ p. Matched mid (held c.loop-instr.x) (held c.loop-instr.y) (step_of c.args.code.now c.instr-item.result) p new x'' y'' true) v.place (subst (λ b. Matched mid (held c.loop-instr.x) (held c.loop-instr.y) (step_of c.args.code.now c.instr-item.result) c.loop-instr.place new x'' y'' b) c.if-not-matched.false c.in_ok-matched.ensures.matched) m (steps_from c.args.code.now (at + i + 1)) (omega arith))));
      passed = none-more c.args.code.now.instructions at i c.instr-item.result v.passed e (c.in_ok-matched.ensures.argument c.if-not-matched.false);
      inside = let l : at + i < length c.args.code.now.instructions = slice_get_within c.args.code.now.instructions (at + i) c.instr-item.result e in omega arith;
      place = omega arith;
      few = omega arith;
      longer = omega arith;
      holds_x = c.match_argument.ensures.holds_x;
      holds_y = c.match_argument.ensures.holds_y;
      x_len = c.match_argument.ensures.x_len ∙ v.x_len;
      y_len = c.match_argument.ensures.y_len ∙ v.y_len;
      spare = omega arith;
      keeps = Keeps-trans c.args.cells.now c.loop-instr.cells c.match_argument.new.cells v.keeps c.match_argument.ensures.keeps;
    }

pub returns-in_err-matched-clause-wants : goal.returns-in_err-matched-clause-wants
returns-in_err-matched-clause-wants c =
    let few : c.loop-instr.instr-index < c.args.count = part-few c.instructions-instructions.result.now c.args.at c.args.count c.min-end.result c.loop-instr.instr-index c.min-end.ensures c.if-prove.false c.loop-instr-test.true in
    let e : slice_get c.args.code.now.instructions (c.args.at + c.loop-instr.instr-index) ≡ Some c.instr-item.result = subst (λ is. slice_get is (c.args.at + c.loop-instr.instr-index) ≡ Some c.instr-item.result) c.instructions-instructions.ensures (part-item c.instructions-instructions.result.now c.args.at c.args.count c.min-end.result c.loop-instr.instr-index c.min-end.ensures c.if-prove.false c.instr-item.result _ c.instr-item.is c.loop-instr-test.true) in
    elim c.from_residual.result as (λ r. OnErr r (has_value c.args.code.now.instructions c.args.at c.args.count ≡ true)) [
      | Ok b ↦ tt
      | Err f ↦ value-among c.args.code.now.instructions c.args.at c.loop-instr.instr-index c.instr-item.result e c.args.count few c.in_err-matched.ensures.wants
    ]

pub overflow_add-place : goal.overflow_add-place
overflow_add-place c =
    let few : c.loop-instr.instr-index < c.args.count = part-few c.instructions-instructions.result.now c.args.at c.args.count c.min-end.result c.loop-instr.instr-index c.min-end.ensures c.if-prove.false c.loop-instr-test.true in
    let p : c.loop-instr.place ≡ c.args.first + c.loop-instr.instr-index = c.loop-instr.invariant.place in
    omega arith

pub returns-then-end-at-clause-matched : goal.returns-then-end-at-clause-matched
returns-then-end-at-clause-matched c =
    let m : ℕ = c.args.count - c.loop-instr.instr-index in
    let few : c.loop-instr.instr-index ≤ c.args.count = c.loop-instr.invariant.few in
    let n : c.args.count ≡ c.loop-instr.instr-index + m = omega arith in
    MovesInside-end c.args.cells.now.cells c.loop-instr.cells.cells (held c.args.x.now) (held c.args.y.now) (held c.loop-instr.x) (held c.loop-instr.y) (steps_from c.args.code.now c.args.at) c.args.first c.args.count (c.args.first + c.loop-instr.instr-index) m
    (subst (λ is. MovesInside c.args.cells.now.cells (held c.args.x.now) (held c.args.y.now) (steps_from c.args.code.now c.args.at) c.args.first c.args.count c.loop-instr.cells.cells (held c.loop-instr.x) (held c.loop-instr.y) is (c.args.first + c.loop-instr.instr-index) m)
    (steps-past c.args.code.now (c.args.at + c.loop-instr.instr-index) (subst (λ is. slice_get is (c.args.at + c.loop-instr.instr-index) ≡ None) c.instructions-instructions.ensures (part-past c.instructions-instructions.result.now c.args.at c.args.count c.min-end.result c.loop-instr.instr-index c.min-end.ensures c.if-prove.false c.loop-instr-test.false c.if-end-at.true))) (c.loop-instr.invariant.matched m n))

pub returns-clause-matched : goal.returns-clause-matched
returns-clause-matched c =
    let e : c.loop-instr.instr-index ≡ c.args.count = part-all c.instructions-instructions.result.now c.args.at c.args.count c.min-end.result c.loop-instr.instr-index c.min-end.ensures c.if-prove.false c.loop-instr-test.false c.loop-instr.invariant.few c.if-end-at.false in
    let n : c.args.count ≡ c.loop-instr.instr-index + 0 = omega arith in
    subst (λ w. MovesInside c.args.cells.now.cells (held c.args.x.now) (held c.args.y.now) (steps_from c.args.code.now c.args.at) c.args.first c.args.count c.loop-instr.cells.cells (held c.loop-instr.x) (held c.loop-instr.y) (steps_from c.args.code.now (c.args.at + w)) (c.args.first + w) 0) e
    (c.loop-instr.invariant.matched 0 n)

pub returns-clause-passed : goal.returns-clause-passed
returns-clause-passed c = λ t. subst (NoneOfControl c.args.code.now.instructions c.args.at) (part-all c.instructions-instructions.result.now c.args.at c.args.count c.min-end.result c.loop-instr.instr-index c.min-end.ensures c.if-prove.false c.loop-instr-test.false c.loop-instr.invariant.few c.if-end-at.false) c.loop-instr.invariant.passed
