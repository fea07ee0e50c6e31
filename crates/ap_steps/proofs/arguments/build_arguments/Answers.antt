use Rattle.std.proofs.Common.{◌≡◌, ◌+◌, ◌≤◌, true, false, length, slice_get, Some, refl, sym, ◌∙◌, subst, arith}
use Rattle.ap_cells.proofs.Stores.{Keeps-trans}
use Rattle.ap_instr.specs.Step.{step_of}
use Rattle.ap_needs.specs.Needs.{HasTargets, has_value}
use Rattle.ap_steps.specs.Moves.{held}
use Rattle.ap_steps.specs.Arguments.{BuiltOr, BuiltOrStuck, are_built}
use Rattle.ap_steps.proofs.NewCells.{KeepTrees-trans, StandApart-trans}
use Rattle.ap_steps.proofs.Pairs.{pair-targets, pair-targets-next, pair-value, pair-value-next, pair-passed, pair-unbuilt, pair-built, parts-known}
use Rattle.ap_steps.proofs.arguments.build_arguments.Goals as goal

pub build_argument-left-requires-clause-has : goal.build_argument-left-requires-clause-has
build_argument-left-requires-clause-has c =
    let code = c.args.code.now in
    let e : slice_get code.instructions c.args.at ≡ Some c.in-Some.one.now = subst (λ is. slice_get is c.args.at ≡ Some c.in-Some.one.now) c.instructions-instructions.ensures c.in-Some.ensures.some in
    let f : slice_get code.instructions (c.args.at + 1) ≡ Some c.in-Some-instruction_in.two.now = subst (λ is. slice_get is (c.args.at + 1) ≡ Some c.in-Some-instruction_in.two.now) c.instructions-instructions.ensures c.in-Some-instruction_in.ensures.some in
    pair-targets c.args.code.now c.args.at c.args.count c.if-count-eq2.true c.in-Some.one.now c.in-Some-instruction_in.two.now e f (length c.args.x.now) (length c.args.y.now) c.requires.targets

pub returns-then-not-were_built-clause-built : goal.returns-then-not-were_built-clause-built
returns-then-not-were_built-clause-built c =
    let code = c.args.code.now in
    let e : slice_get code.instructions c.args.at ≡ Some c.in-Some.one.now = subst (λ is. slice_get is c.args.at ≡ Some c.in-Some.one.now) c.instructions-instructions.ensures c.in-Some.ensures.some in
    let f : slice_get code.instructions (c.args.at + 1) ≡ Some c.in-Some-instruction_in.two.now = subst (λ is. slice_get is (c.args.at + 1) ≡ Some c.in-Some-instruction_in.two.now) c.instructions-instructions.ensures c.in-Some-instruction_in.ensures.some in
    let no : are_built c.build_argument-left.result ≡ false = sym c.were_built.ensures ∙ c.if-not-were_built.true in
    pair-unbuilt c.args.code.now c.args.at c.args.count c.if-count-eq2.true c.in-Some.one.now c.in-Some-instruction_in.two.now e f c.args.cells.now.cells c.build_argument-left.new.cells.cells c.build_argument-left.new.cells.cells (held c.args.x.now) (held c.args.y.now) (held c.build_argument-left.new.x) (held c.build_argument-left.new.y) (held c.build_argument-left.new.x) (held c.build_argument-left.new.y) (length c.args.cells.now.cells + c.args.count)
    (subst (BuiltOr (length c.args.cells.now.cells + c.args.count) c.args.cells.now.cells (held c.args.x.now) (held c.args.y.now) (step_of code c.in-Some.one.now) c.build_argument-left.new.cells.cells (held c.build_argument-left.new.x) (held c.build_argument-left.new.y)) no (c.build_argument-left.ensures.built (length c.args.cells.now.cells + c.args.count) c.requires.holds_x c.requires.holds_y))

pub build_argument-right-requires-clause-has : goal.build_argument-right-requires-clause-has
build_argument-right-requires-clause-has c =
    let code = c.args.code.now in
    let e : slice_get code.instructions c.args.at ≡ Some c.in-Some.one.now = subst (λ is. slice_get is c.args.at ≡ Some c.in-Some.one.now) c.instructions-instructions.ensures c.in-Some.ensures.some in
    let f : slice_get code.instructions (c.args.at + 1) ≡ Some c.in-Some-instruction_in.two.now = subst (λ is. slice_get is (c.args.at + 1) ≡ Some c.in-Some-instruction_in.two.now) c.instructions-instructions.ensures c.in-Some-instruction_in.ensures.some in
    let ok : are_built c.build_argument-left.result ≡ true = sym c.were_built.ensures ∙ c.if-not-were_built.false in
    let h : HasTargets c.in-Some-instruction_in.two.now (length c.args.x.now) (length c.args.y.now) = pair-targets-next c.args.code.now c.args.at c.args.count c.if-count-eq2.true c.in-Some.one.now c.in-Some-instruction_in.two.now e f (length c.args.x.now) (length c.args.y.now) (c.build_argument-left.ensures.argument ok) c.requires.targets in
    subst (λ n. HasTargets c.in-Some-instruction_in.two.now n (length c.build_argument-left.new.y)) (sym c.build_argument-left.ensures.x_len) (subst (HasTargets c.in-Some-instruction_in.two.now (length c.args.x.now)) (sym c.build_argument-left.ensures.y_len) h)

pub returns-in-Some-instruction_in-clause-built : goal.returns-in-Some-instruction_in-clause-built
returns-in-Some-instruction_in-clause-built c =
    let code = c.args.code.now in
    let e : slice_get code.instructions c.args.at ≡ Some c.in-Some.one.now = subst (λ is. slice_get is c.args.at ≡ Some c.in-Some.one.now) c.instructions-instructions.ensures c.in-Some.ensures.some in
    let f : slice_get code.instructions (c.args.at + 1) ≡ Some c.in-Some-instruction_in.two.now = subst (λ is. slice_get is (c.args.at + 1) ≡ Some c.in-Some-instruction_in.two.now) c.instructions-instructions.ensures c.in-Some-instruction_in.ensures.some in
    let ok : are_built c.build_argument-left.result ≡ true = sym c.were_built.ensures ∙ c.if-not-were_built.false in
    subst (BuiltOrStuck code c.args.at c.args.count c.args.cells.now.cells (held c.args.x.now) (held c.args.y.now) c.build_argument-right.new.cells.cells (held c.build_argument-right.new.x) (held c.build_argument-right.new.y)) (sym c.joined.ensures.built)
    (pair-built c.args.code.now c.args.at c.args.count c.if-count-eq2.true c.in-Some.one.now c.in-Some-instruction_in.two.now e f c.args.cells.now.cells c.build_argument-left.new.cells.cells c.build_argument-right.new.cells.cells (held c.args.x.now) (held c.args.y.now) (held c.build_argument-left.new.x) (held c.build_argument-left.new.y) (held c.build_argument-right.new.x) (held c.build_argument-right.new.y) (length c.args.cells.now.cells + c.args.count) (c.build_argument-left.ensures.argument ok)
    (subst (BuiltOr (length c.args.cells.now.cells + c.args.count) c.args.cells.now.cells (held c.args.x.now) (held c.args.y.now) (step_of code c.in-Some.one.now) c.build_argument-left.new.cells.cells (held c.build_argument-left.new.x) (held c.build_argument-left.new.y)) ok (c.build_argument-left.ensures.built (length c.args.cells.now.cells + c.args.count) c.requires.holds_x c.requires.holds_y))
    (are_built c.build_argument-right.result) refl c.build_argument-right.ensures.argument
    (c.build_argument-right.ensures.built (length c.args.cells.now.cells + c.args.count) (c.build_argument-left.ensures.holds_x (length c.args.cells.now.cells + c.args.count) c.requires.holds_x) (c.build_argument-left.ensures.holds_y (length c.args.cells.now.cells + c.args.count) c.requires.holds_y)))

pub returns-in-Some-instruction_in-clause-passed : goal.returns-in-Some-instruction_in-clause-passed
returns-in-Some-instruction_in-clause-passed c =
    let code = c.args.code.now in
    let e : slice_get code.instructions c.args.at ≡ Some c.in-Some.one.now = subst (λ is. slice_get is c.args.at ≡ Some c.in-Some.one.now) c.instructions-instructions.ensures c.in-Some.ensures.some in
    let f : slice_get code.instructions (c.args.at + 1) ≡ Some c.in-Some-instruction_in.two.now = subst (λ is. slice_get is (c.args.at + 1) ≡ Some c.in-Some-instruction_in.two.now) c.instructions-instructions.ensures c.in-Some-instruction_in.ensures.some in
    let ok : are_built c.build_argument-left.result ≡ true = sym c.were_built.ensures ∙ c.if-not-were_built.false in
    λ built. pair-passed c.args.code.now c.args.at c.args.count c.if-count-eq2.true c.in-Some.one.now c.in-Some-instruction_in.two.now e f (c.build_argument-left.ensures.argument ok) (c.build_argument-right.ensures.argument (sym c.joined.ensures.built ∙ built))

pub returns-in-Some-instruction_in-clause-fresh : goal.returns-in-Some-instruction_in-clause-fresh
returns-in-Some-instruction_in-clause-fresh c =
    let code = c.args.code.now in
    let e : slice_get code.instructions c.args.at ≡ Some c.in-Some.one.now = subst (λ is. slice_get is c.args.at ≡ Some c.in-Some.one.now) c.instructions-instructions.ensures c.in-Some.ensures.some in
    let f : slice_get code.instructions (c.args.at + 1) ≡ Some c.in-Some-instruction_in.two.now = subst (λ is. slice_get is (c.args.at + 1) ≡ Some c.in-Some-instruction_in.two.now) c.instructions-instructions.ensures c.in-Some-instruction_in.ensures.some in
    let ok : are_built c.build_argument-left.result ≡ true = sym c.were_built.ensures ∙ c.if-not-were_built.false in
    let first = subst (BuiltOr (length c.args.cells.now.cells + c.args.count) c.args.cells.now.cells (held c.args.x.now) (held c.args.y.now) (step_of code c.in-Some.one.now) c.build_argument-left.new.cells.cells (held c.build_argument-left.new.x) (held c.build_argument-left.new.y)) ok (c.build_argument-left.ensures.built (length c.args.cells.now.cells + c.args.count) c.requires.holds_x c.requires.holds_y) in
    let l : length c.build_argument-left.new.cells.cells ≡ length c.args.cells.now.cells + 1 = first.longer in
    let longer : length c.args.cells.now.cells ≤ length c.build_argument-left.new.cells.cells = omega arith in
    λ fresh.
    let both = c.joined.ensures.fresh fresh in
    StandApart-trans c.args.cells.now.cells c.build_argument-left.new.cells.cells c.build_argument-right.new.cells.cells longer c.build_argument-right.ensures.stays (c.build_argument-left.ensures.fresh both.0) (c.build_argument-right.ensures.fresh both.1)

pub returns-in-Some-instruction_in-clause-value : goal.returns-in-Some-instruction_in-clause-value
returns-in-Some-instruction_in-clause-value c =
    let code = c.args.code.now in
    let e : slice_get code.instructions c.args.at ≡ Some c.in-Some.one.now = subst (λ is. slice_get is c.args.at ≡ Some c.in-Some.one.now) c.instructions-instructions.ensures c.in-Some.ensures.some in
    let f : slice_get code.instructions (c.args.at + 1) ≡ Some c.in-Some-instruction_in.two.now = subst (λ is. slice_get is (c.args.at + 1) ≡ Some c.in-Some-instruction_in.two.now) c.instructions-instructions.ensures c.in-Some-instruction_in.ensures.some in
    let ok : are_built c.build_argument-left.result ≡ true = sym c.were_built.ensures ∙ c.if-not-were_built.false in
    λ values.
    parts-known c.build_argument-left.result ok (has_value code.instructions c.args.at c.args.count ≡ true) (λ left. pair-value-next c.args.code.now c.args.at c.args.count c.if-count-eq2.true c.in-Some.one.now c.in-Some-instruction_in.two.now e f (c.build_argument-right.ensures.value (c.joined.ensures.values values left))) (λ left. pair-value c.args.code.now c.args.at c.args.count c.if-count-eq2.true c.in-Some.one.now c.in-Some-instruction_in.two.now e f (c.build_argument-left.ensures.value left))

pub returns-in-Some-instruction_in-clause-stays : goal.returns-in-Some-instruction_in-clause-stays
returns-in-Some-instruction_in-clause-stays c =
    let code = c.args.code.now in
    let e : slice_get code.instructions c.args.at ≡ Some c.in-Some.one.now = subst (λ is. slice_get is c.args.at ≡ Some c.in-Some.one.now) c.instructions-instructions.ensures c.in-Some.ensures.some in
    let f : slice_get code.instructions (c.args.at + 1) ≡ Some c.in-Some-instruction_in.two.now = subst (λ is. slice_get is (c.args.at + 1) ≡ Some c.in-Some-instruction_in.two.now) c.instructions-instructions.ensures c.in-Some-instruction_in.ensures.some in
    let ok : are_built c.build_argument-left.result ≡ true = sym c.were_built.ensures ∙ c.if-not-were_built.false in
    let first = subst (BuiltOr (length c.args.cells.now.cells + c.args.count) c.args.cells.now.cells (held c.args.x.now) (held c.args.y.now) (step_of code c.in-Some.one.now) c.build_argument-left.new.cells.cells (held c.build_argument-left.new.x) (held c.build_argument-left.new.y)) ok (c.build_argument-left.ensures.built (length c.args.cells.now.cells + c.args.count) c.requires.holds_x c.requires.holds_y) in
    let l : length c.build_argument-left.new.cells.cells ≡ length c.args.cells.now.cells + 1 = first.longer in
    let longer : length c.args.cells.now.cells ≤ length c.build_argument-left.new.cells.cells = omega arith in
    KeepTrees-trans c.args.cells.now.cells c.build_argument-left.new.cells.cells c.build_argument-right.new.cells.cells longer c.build_argument-left.ensures.stays c.build_argument-right.ensures.stays

pub returns-in-Some-instruction_in-clause-holds_x : goal.returns-in-Some-instruction_in-clause-holds_x
returns-in-Some-instruction_in-clause-holds_x c =
    λ w h. c.build_argument-right.ensures.holds_x w (c.build_argument-left.ensures.holds_x w h)

pub returns-in-Some-instruction_in-clause-holds_y : goal.returns-in-Some-instruction_in-clause-holds_y
returns-in-Some-instruction_in-clause-holds_y c =
    λ w h. c.build_argument-right.ensures.holds_y w (c.build_argument-left.ensures.holds_y w h)

pub returns-in-Some-instruction_in-clause-spare : goal.returns-in-Some-instruction_in-clause-spare
returns-in-Some-instruction_in-clause-spare c =
    let ok : are_built c.build_argument-left.result ≡ true = sym c.were_built.ensures ∙ c.if-not-were_built.false in
    λ built. let p = c.build_argument-left.ensures.spare ok in let q = c.build_argument-right.ensures.spare (sym c.joined.ensures.built ∙ built) in let n : c.args.count ≡ 2 = c.if-count-eq2.true in omega (arith, p, q)

pub returns-in-Some-instruction_in-clause-keeps : goal.returns-in-Some-instruction_in-clause-keeps
returns-in-Some-instruction_in-clause-keeps c =
    Keeps-trans c.args.cells.now c.build_argument-left.new.cells c.build_argument-right.new.cells c.build_argument-left.ensures.keeps c.build_argument-right.ensures.keeps
