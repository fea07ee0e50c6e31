use Rattle.std.proofs.Common.{◌≡◌, ◌+◌, ◌++◌, ◌∷◌, [], map, None, ap, ◌∙◌}
use Rattle.ap_term.specs.GoalView.{part_of}
use Rattle.ap_term.specs.Goals.{instance_part}
use Rattle.ap_term.specs.Substitution.{shift}
use Rattle.ap_spec.specs.Shifts.{shift_within}
use Rattle.ap_term.specs.Search.{child}
use Rattle.ap_spec.specs.States.{state_of, behind_of}
use Rattle.ap_spec.proofs.Shifts.{shift-body}
use Rattle.ap_spec.proofs.states.add_unified.Goals as goal

pub returns : goal.returns
returns c =
    let n = c.args.s.now.next in
    let body : map part_of c.as_slice-2.result.now ≡ map (instance_part (shift n)) c.args.clause.now.body =
    c.as_slice-2.ensures ∙ c.in_ok-add_instances.ensures ∙ ap (λ ps. ps ++ map (instance_part (shift_within n)) (map part_of c.as_slice.result.now)) c.new-body.ensures
    ∙ ap (map (instance_part (shift_within n))) (c.as_slice.ensures ∙ c.body.ensures.body) ∙ shift-body n c.args.clause.now c.requires.room c.body.ensures.kept in
    c.in_ok-push_back.ensures
    ∙ ap (λ t. c.args.out.now ++ t ∷ [])
    (c.in_ok-child.ensures
    ∙ ap (λ v. child (state_of c.args.s.now) (behind_of c.args.rest.now) (record { binds = c.args.binds.now; body = map part_of c.as_slice-2.result.now; takes = v + 1; fault = None })) c.vars.ensures.vars
    ∙ ap (λ b. child (state_of c.args.s.now) (behind_of c.args.rest.now) (record { binds = c.args.binds.now; body = b; takes = c.args.clause.now.vars + 1; fault = None })) body)
