use Rattle.std.proofs.Common.{◌≡◌, ℕ, ◌+◌, ◌-◌, ◌<◌, ◌≤◌, true, length, slice_get, Some, None, sym, ap, ◌∙◌, subst, arith}
use Rattle.std.proofs.lemmas.Bool.{false≢true}
use Rattle.std.proofs.lemmas.Option.{slice_get_within}
use Rattle.ap_cells.proofs.Stores.{Keeps-trans}
use Rattle.ap_instr.specs.Step.{step_of}
use Rattle.ap_instr.specs.Steps.{steps_from, skipped}
use Rattle.ap_instr.proofs.Steps.{steps_law, steps-past}
use Rattle.ap_needs.specs.Needs.{HasTargets, is_value, has_value}
use Rattle.ap_needs.proofs.Places.{steps-next}
use Rattle.ap_steps.specs.Moves.{held}
use Rattle.ap_steps.specs.declared.arguments.Parts.TheVariants.{Fresh, Values}
use Rattle.ap_steps.specs.Arguments.{BuiltOr, BuiltAll, are_built, StandApart}
use Rattle.ap_steps.proofs.Places.{part-item, part-few, part-all, part-past, part-short, part-within, plain-transfer, targets-here, none-more, none-targets, value-kept, value-among}
use Rattle.ap_steps.proofs.NewCells.{KeepTrees-trans, StandApart-trans}
use Rattle.ap_steps.proofs.StructureSteps.{BuiltAll-more, BuiltAll-stuck, BuiltAll-end}
use Rattle.ap_steps.proofs.arguments.build_many.Goals as goal
use Rattle.ap_steps.proofs.arguments.build_many.Goals.{in-Fresh, in-Values}

pub build_argument-requires-clause-has : goal.build_argument-requires-clause-has
build_argument-requires-clause-has c =
    let v = c.loop-instr.invariant in
    let e : slice_get c.args.code.now.instructions (c.args.at + c.loop-instr.instr-index) ≡ Some c.instr-item.result = subst (λ is. slice_get is (c.args.at + c.loop-instr.instr-index) ≡ Some c.instr-item.result) c.instructions-instructions.ensures (part-item c.instructions-instructions.result.now c.args.at c.args.count c.min-end.result c.loop-instr.instr-index c.min-end.ensures c.if-prove.false c.instr-item.result _ c.instr-item.is c.loop-instr-test.true) in
    let h : HasTargets c.instr-item.result (length c.args.x.now) (length c.args.y.now) =
    (targets-here c.args.code.now.instructions (c.args.at + c.loop-instr.instr-index) (length c.args.x.now) (length c.args.y.now) c.instr-item.result e
    (none-targets c.args.code.now.instructions c.args.at c.loop-instr.instr-index (length c.args.x.now) (length c.args.y.now) v.passed c.requires.targets)).0
    in
    subst (λ n. HasTargets c.instr-item.result n (length c.loop-instr.y)) (sym v.x_len) (subst (HasTargets c.instr-item.result (length c.args.x.now)) (sym v.y_len) h)

pub returns-in-Stuck-clause-built : goal.returns-in-Stuck-clause-built
returns-in-Stuck-clause-built c =
    let v = c.loop-instr.invariant in
    let whole : ℕ = length c.args.cells.now.cells + c.args.count in
    let e : slice_get c.args.code.now.instructions (c.args.at + c.loop-instr.instr-index) ≡ Some c.instr-item.result = subst (λ is. slice_get is (c.args.at + c.loop-instr.instr-index) ≡ Some c.instr-item.result) c.instructions-instructions.ensures (part-item c.instructions-instructions.result.now c.args.at c.args.count c.min-end.result c.loop-instr.instr-index c.min-end.ensures c.if-prove.false c.instr-item.result _ c.instr-item.is c.loop-instr-test.true) in
    BuiltAll-stuck whole c.loop-instr.instr-index c.args.count c.args.cells.now.cells c.loop-instr.cells.cells c.build_argument.new.cells.cells (held c.args.x.now) (held c.args.y.now) (held c.loop-instr.x) (held c.loop-instr.y) (held c.build_argument.new.x) (held c.build_argument.new.y)
    (steps_from c.args.code.now c.args.at) (steps_from c.args.code.now (c.args.at + c.loop-instr.instr-index + 1 + skipped c.instr-item.result (c.args.at + c.loop-instr.instr-index))) (step_of c.args.code.now c.instr-item.result) (part-few c.instructions-instructions.result.now c.args.at c.args.count c.min-end.result c.loop-instr.instr-index c.min-end.ensures c.if-prove.false c.loop-instr-test.true)
    (subst (λ is. BuiltAll c.loop-instr.instr-index c.args.cells.now.cells (held c.args.x.now) (held c.args.y.now) (steps_from c.args.code.now c.args.at) c.loop-instr.cells.cells (held c.loop-instr.x) (held c.loop-instr.y) is)
    (steps_law c.args.code.now (c.args.at + c.loop-instr.instr-index) c.instr-item.result e) v.built)
    (c.in-Stuck.ensures.built whole (v.holds_x whole c.requires.holds_x) (v.holds_y whole c.requires.holds_y))

pub returns-in-Stuck-clause-holds_x : goal.returns-in-Stuck-clause-holds_x
returns-in-Stuck-clause-holds_x c = λ whole h. c.build_argument.ensures.holds_x whole (c.loop-instr.invariant.holds_x whole h)

pub returns-in-Stuck-clause-holds_y : goal.returns-in-Stuck-clause-holds_y
returns-in-Stuck-clause-holds_y c = λ whole h. c.build_argument.ensures.holds_y whole (c.loop-instr.invariant.holds_y whole h)

pub returns-in-Stuck-clause-keeps : goal.returns-in-Stuck-clause-keeps
returns-in-Stuck-clause-keeps c = Keeps-trans c.args.cells.now c.loop-instr.cells c.build_argument.new.cells c.loop-instr.invariant.keeps c.build_argument.ensures.keeps

pub loop-instr-preserved : goal.loop-instr-preserved
loop-instr-preserved c =
    let v = c.loop-instr.invariant in
    let i : ℕ = c.loop-instr.instr-index in
    let at : ℕ = c.args.at in
    let whole : ℕ = length c.args.cells.now.cells + c.args.count in
    let e : slice_get c.args.code.now.instructions (at + i) ≡ Some c.instr-item.result = subst (λ is. slice_get is (c.args.at + c.loop-instr.instr-index) ≡ Some c.instr-item.result) c.instructions-instructions.ensures (part-item c.instructions-instructions.result.now c.args.at c.args.count c.min-end.result c.loop-instr.instr-index c.min-end.ensures c.if-prove.false c.instr-item.result _ c.instr-item.is c.loop-instr-test.true) in
    let value : c.build_argument.result ≡ Values → is_value c.instr-item.result ≡ true = c.build_argument.ensures.value in
    let fresh : c.build_argument.result ≡ Fresh → StandApart c.loop-instr.cells.cells c.build_argument.new.cells.cells = c.build_argument.ensures.fresh in
    let longer : length c.args.cells.now.cells ≤ length c.loop-instr.cells.cells = let l : length c.loop-instr.cells.cells ≡ length c.args.cells.now.cells + i = v.built.longer in omega arith in
    let ok : are_built c.build_argument.result ≡ true = elim c.match-build_argument.branch [ in-Fresh w ↦ ap are_built w.in-Fresh.is | in-Values w ↦ ap are_built w.in-Values.is ] in
    let behind : at + i + 1 ≡ at + (i + 1) = omega arith in
    record {
      built =
          subst (λ n. BuiltAll (i + 1) c.args.cells.now.cells (held c.args.x.now) (held c.args.y.now) (steps_from c.args.code.now at) c.build_argument.new.cells.cells (held c.build_argument.new.x) (held c.build_argument.new.y) (steps_from c.args.code.now n)) behind
          (BuiltAll-more i c.args.cells.now.cells c.loop-instr.cells.cells c.build_argument.new.cells.cells (held c.args.x.now) (held c.args.y.now) (held c.loop-instr.x) (held c.loop-instr.y) (held c.build_argument.new.x) (held c.build_argument.new.y)
          (steps_from c.args.code.now at) (steps_from c.args.code.now (at + i + 1)) (step_of c.args.code.now c.instr-item.result)
          (subst (λ is. BuiltAll i c.args.cells.now.cells (held c.args.x.now) (held c.args.y.now) (steps_from c.args.code.now at) c.loop-instr.cells.cells (held c.loop-instr.x) (held c.loop-instr.y) is) (steps-next c.args.code.now (at + i) c.instr-item.result e (plain-transfer c.instr-item.result (c.build_argument.ensures.argument ok))) v.built)
          (subst (BuiltOr whole c.loop-instr.cells.cells (held c.loop-instr.x) (held c.loop-instr.y) (step_of c.args.code.now c.instr-item.result) c.build_argument.new.cells.cells (held c.build_argument.new.x) (held c.build_argument.new.y)) ok
          (c.build_argument.ensures.built whole (v.holds_x whole c.requires.holds_x) (v.holds_y whole c.requires.holds_y))));
      passed = none-more c.args.code.now.instructions at i c.instr-item.result v.passed e (c.build_argument.ensures.argument ok);
      value =
          elim c.match-build_argument.branch [
            | in-Fresh w ↦ λ some. value-kept c.args.code.now.instructions at i (v.value (sym w.values-is ∙ some))
            | in-Values w ↦ λ some. value-among c.args.code.now.instructions at i c.instr-item.result e (i + 1) (omega arith) (value w.in-Values.is)
          ];
      fresh =
          elim c.match-build_argument.branch [
            | in-Fresh w ↦ λ none.
                StandApart-trans c.args.cells.now.cells c.loop-instr.cells.cells c.build_argument.new.cells.cells longer c.build_argument.ensures.stays (v.fresh (sym w.values-is ∙ none)) (fresh w.in-Fresh.is)
            | in-Values w ↦ λ none. absurd (false≢true (sym none ∙ w.values-is))
          ];
      stays = KeepTrees-trans c.args.cells.now.cells c.loop-instr.cells.cells c.build_argument.new.cells.cells longer v.stays c.build_argument.ensures.stays;
      few = let l : c.loop-instr.instr-index < c.args.count = part-few c.instructions-instructions.result.now c.args.at c.args.count c.min-end.result c.loop-instr.instr-index c.min-end.ensures c.if-prove.false c.loop-instr-test.true in omega arith;
      end = let l : c.loop-instr.instr-index < c.min-end.result - c.args.at = part-within c.instructions-instructions.result.now c.args.at c.args.count c.min-end.result c.loop-instr.instr-index c.min-end.ensures c.if-prove.false c.loop-instr-test.true in omega arith;
      inside = let l : at + i < length c.args.code.now.instructions = slice_get_within c.args.code.now.instructions (at + i) c.instr-item.result e in omega arith;
      holds_x = λ w h. c.build_argument.ensures.holds_x w (v.holds_x w h);
      holds_y = λ w h. c.build_argument.ensures.holds_y w (v.holds_y w h);
      x_len = c.build_argument.ensures.x_len ∙ v.x_len;
      y_len = c.build_argument.ensures.y_len ∙ v.y_len;
      spare = omega (arith, c.build_argument.ensures.spare ok);
      keeps = Keeps-trans c.args.cells.now c.loop-instr.cells c.build_argument.new.cells v.keeps c.build_argument.ensures.keeps;
    }

pub returns-then-values-clause-built : goal.returns-then-values-clause-built
returns-then-values-clause-built c =
    let e : c.loop-instr.instr-index ≡ c.args.count = part-all c.instructions-instructions.result.now c.args.at c.args.count c.min-end.result c.loop-instr.instr-index c.min-end.ensures c.if-prove.false c.loop-instr-test.false c.loop-instr.invariant.few c.if-end-at.false in
    subst (λ n. BuiltAll n c.args.cells.now.cells (held c.args.x.now) (held c.args.y.now) (steps_from c.args.code.now c.args.at) c.loop-instr.cells.cells (held c.loop-instr.x) (held c.loop-instr.y) (steps_from c.args.code.now (c.args.at + n))) e
    c.loop-instr.invariant.built

pub returns-else-values-clause-built : goal.returns-else-values-clause-built
returns-else-values-clause-built c =
    let e : c.loop-instr.instr-index ≡ c.args.count = part-all c.instructions-instructions.result.now c.args.at c.args.count c.min-end.result c.loop-instr.instr-index c.min-end.ensures c.if-prove.false c.loop-instr-test.false c.loop-instr.invariant.few c.if-end-at.false in
    subst (λ n. BuiltAll n c.args.cells.now.cells (held c.args.x.now) (held c.args.y.now) (steps_from c.args.code.now c.args.at) c.loop-instr.cells.cells (held c.loop-instr.x) (held c.loop-instr.y) (steps_from c.args.code.now (c.args.at + n))) e
    c.loop-instr.invariant.built

pub returns-then-values-clause-value : goal.returns-then-values-clause-value
returns-then-values-clause-value c = λ t. let e : c.args.count ≡ c.loop-instr.instr-index = sym (part-all c.instructions-instructions.result.now c.args.at c.args.count c.min-end.result c.loop-instr.instr-index c.min-end.ensures c.if-prove.false c.loop-instr-test.false c.loop-instr.invariant.few c.if-end-at.false) in ap (has_value c.args.code.now.instructions c.args.at) e ∙ c.loop-instr.invariant.value c.if-values.true

pub returns-else-values-clause-fresh : goal.returns-else-values-clause-fresh
returns-else-values-clause-fresh c = λ t. c.loop-instr.invariant.fresh c.if-values.false

pub returns-then-values-clause-stays : goal.returns-then-values-clause-stays
returns-then-values-clause-stays c = c.loop-instr.invariant.stays

pub returns-else-values-clause-stays : goal.returns-else-values-clause-stays
returns-else-values-clause-stays c = c.loop-instr.invariant.stays

pub returns-in-Stuck-clause-stays : goal.returns-in-Stuck-clause-stays
returns-in-Stuck-clause-stays c =
    let longer : length c.args.cells.now.cells ≤ length c.loop-instr.cells.cells = let l : length c.loop-instr.cells.cells ≡ length c.args.cells.now.cells + c.loop-instr.instr-index = c.loop-instr.invariant.built.longer in omega arith in
    KeepTrees-trans c.args.cells.now.cells c.loop-instr.cells.cells c.build_argument.new.cells.cells longer c.loop-instr.invariant.stays c.build_argument.ensures.stays

pub returns-then-end-at-clause-built : goal.returns-then-end-at-clause-built
returns-then-end-at-clause-built c =
    let less : c.loop-instr.instr-index < c.args.count = part-short c.instructions-instructions.result.now c.args.at c.args.count c.min-end.result c.loop-instr.instr-index c.min-end.ensures c.if-prove.false c.loop-instr.invariant.end c.if-end-at.true in
    BuiltAll-end (length c.args.cells.now.cells + c.args.count) c.loop-instr.instr-index c.args.count c.args.cells.now.cells c.loop-instr.cells.cells (held c.args.x.now) (held c.args.y.now) (held c.loop-instr.x) (held c.loop-instr.y) (steps_from c.args.code.now c.args.at)
    less
    (subst (λ is. BuiltAll c.loop-instr.instr-index c.args.cells.now.cells (held c.args.x.now) (held c.args.y.now) (steps_from c.args.code.now c.args.at) c.loop-instr.cells.cells (held c.loop-instr.x) (held c.loop-instr.y) is)
    (steps-past c.args.code.now (c.args.at + c.loop-instr.instr-index) (subst (λ is. slice_get is (c.args.at + c.loop-instr.instr-index) ≡ None) c.instructions-instructions.ensures (part-past c.instructions-instructions.result.now c.args.at c.args.count c.min-end.result c.loop-instr.instr-index c.min-end.ensures c.if-prove.false c.loop-instr-test.false c.if-end-at.true))) c.loop-instr.invariant.built)

pub returns-then-end-at-clause-stays : goal.returns-then-end-at-clause-stays
returns-then-end-at-clause-stays c = c.loop-instr.invariant.stays
