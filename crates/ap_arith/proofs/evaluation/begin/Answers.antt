use Rattle.std.proofs.Common.{◌≡◌, ◌+◌, ap, sym, ◌∙◌, true, ◌==◌, if◌then◌else◌, arith, Err}
use Rattle.ap_term.specs.declared.faults.Fault.TheVariants.{WrongType}
use Rattle.ap_term.specs.Tree.{node}
use Rattle.ap_term.specs.Arithmetic.{evaluated, negated, value_of}
use Rattle.ap_term.specs.declared.fixed.TheConstants.{MINUS}
use Rattle.ap_term.proofs.Solutions.{same_test}
use Rattle.ap_cells.specs.Trees.{tree_at, span}
use Rattle.ap_cells.specs.Walks.{weight, weight_all}
use Rattle.ap_arith.specs.declared.evaluation.Frame.TheVariants.{Negate, Left}
use Rattle.ap_arith.specs.Valued.{valued}
use Rattle.ap_arith.proofs.Values.{valued-push, weight_frames-push, evaluated-one, evaluated-two, evaluated-other}
use Rattle.ap_arith.proofs.evaluation.begin.Goals as goal

pub returns-in_ok-push-in-1-clause-value : goal.returns-in_ok-push-in-1-clause-value
returns-in_ok-push-in-1-clause-value c ts =
    let m : (c.args.name == MINUS) ≡ true = same_test c.args.name MINUS (sym c.number.ensures ∙ c.if-number-ne-MINUS.false) in
    let e : evaluated (node c.args.name (span ts c.args.first c.args.count)) ≡ negated (evaluated (tree_at ts c.args.first)) = evaluated-one ts c.args.name c.args.first c.args.count c.in-1.is ∙ ap (λ b. if b then negated (evaluated (tree_at ts c.args.first)) else Err WrongType) m in
    rw c.in_ok-push-in-1.ensures.items (valued-push ts c.args.frames.now.items Negate (evaluated (tree_at ts c.args.first)) ∙ ap (valued ts c.args.frames.now.items) (sym e))

pub returns-in_ok-push-in-1-clause-less : goal.returns-in_ok-push-in-1-clause-less
returns-in_ok-push-in-1-clause-less c ts =
    let w : weight_all (span ts c.args.first c.args.count) ≡ weight (tree_at ts c.args.first) + 0 = ap (λ n. weight_all (span ts c.args.first n)) c.in-1.is in
    rw (c.in_ok-push-in-1.ensures.items, weight_frames-push ts c.args.frames.now.items Negate) (omega arith)

pub returns-in_ok-push-in-2-clause-value : goal.returns-in_ok-push-in-2-clause-value
returns-in_ok-push-in-2-clause-value c ts =
    let f = Left c.in-Some.operation (c.args.first + 1) in
    let o = sym c.named.ensures ∙ c.in-Some.is in
    let e = evaluated-two ts c.args.name c.args.first c.args.count c.in-2.is ∙ ap (λ op. value_of op (evaluated (tree_at ts c.args.first)) (evaluated (tree_at ts (c.args.first + 1)))) o in
    rw c.in_ok-push-in-2.ensures.items (valued-push ts c.args.frames.now.items f (evaluated (tree_at ts c.args.first)) ∙ ap (valued ts c.args.frames.now.items) (sym e))

pub returns-in_ok-push-in-2-clause-less : goal.returns-in_ok-push-in-2-clause-less
returns-in_ok-push-in-2-clause-less c ts =
    let w : weight_all (span ts c.args.first c.args.count) ≡ weight (tree_at ts c.args.first) + (weight (tree_at ts (c.args.first + 1)) + 0) = ap (λ n. weight_all (span ts c.args.first n)) c.in-2.is in
    rw (c.in_ok-push-in-2.ensures.items, weight_frames-push ts c.args.frames.now.items (Left c.in-Some.operation (c.args.first + 1))) (omega arith)

pub returns-in_default-clause-value : goal.returns-in_default-clause-value
returns-in_default-clause-value c ts = ap (valued ts c.args.frames.now.items) (sym (evaluated-other ts c.args.name c.args.first c.args.count (omega arith) (omega arith)))
