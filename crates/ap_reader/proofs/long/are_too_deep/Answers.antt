use Rattle.std.proofs.Common.{◌≡◌, [], ◌∷◌, ◌++◌, Ok, ap, subst, ◌∙◌, nat_lt}
use Rattle.ap_reader.specs.declared.depth.TheConstants.{MAX_DEPTH}
use Rattle.ap_reader.specs.Written.{leaves}
use Rattle.ap_reader.specs.Depth.{depth, height_of}
use Rattle.ap_reader.specs.Evaluated.{made, left, evaluated, stacked, top_term}
use Rattle.ap_reader.specs.Reading.{term_of}
use Rattle.ap_reader.specs.Long.{Nexts, leaves_of}
use Rattle.ap_reader.proofs.Same.{folded}
use Rattle.ap_reader.proofs.Ending.{all_values, fault_answers}
use Rattle.ap_reader.proofs.long.are_too_deep.Goals as goal

pub loop-step-init : goal.loop-step-init
loop-step-init c = record { ready = c.new-steps.ensures.ready; folds = λ ts g. ([], c.new-steps.ensures.runs ts g, λ front t sp. c.new-heights.ensures) }

pub returns-in-Ok-None : goal.returns-in-Ok-None
returns-in-Ok-None c = λ ts g.
    let before = c.loop-step.invariant.folds ts g in
    let n = subst (λ o. Nexts ts before.0 (Ok o) c.next.new.self) c.in-Ok-None.field-0-is (c.in-Ok-None.ensures.next ts before.0 before.1) in
    let xs = leaves [] n.0 in
    (n.0, n.1, n.2, c.is_too_deep.ensures (evaluated xs [] before.0) (before.2 n.0 n.1 n.2) ∙ ap (λ vs. nat_lt MAX_DEPTH (depth (top_term vs))) (all_values xs before.0 n.1 n.3))

pub returns-in-Err : goal.returns-in-Err
returns-in-Err c = λ ts g.
    let before = c.loop-step.invariant.folds ts g in
    fault_answers (λ front t b. b ≡ nat_lt MAX_DEPTH (depth (term_of front t))) c.in-Err.fault ts before.0 c.next.new.self (c.in-Err.ensures.next ts before.0 before.1)

pub loop-step-preserved : goal.loop-step-preserved
loop-step-preserved c = record {
  ready = c.in-Ok-Some.ensures.ready;
  folds = λ ts g.
      let before = c.loop-step.invariant.folds ts g in
      let step = c.in-Ok-Some.step in
      let new = c.next.new.self in
      let n = subst (λ o. Nexts ts before.0 (Ok o) new) c.in-Ok-Some.field-0-is (c.in-Ok-Some.ensures.next ts before.0 before.1) in (
        before.0 ++ n.0 ∷ [],
        n.1,
        λ front t sp.
            let xs = leaves [] front in
            let vs = evaluated xs [] before.0 in
            let same = n.2 front t sp in
            c.in-Ok.ensures vs (before.2 front t sp) ∙ ap (λ ys. stacked height_of (made ys step vs ∷ left ys step vs)) c.leaves.ensures ∙ ap (stacked height_of) (folded xs (leaves_of new) before.0 n.0 step same.2),
      );
}
