use Rattle.std.proofs.Common.{◌≡◌, ◌+◌, ◌++◌, map, Option, Some, None, append-nil, ap, sym, subst, ◌∙◌}
use Rattle.std.specs.Prelude.{OnOk}
use Rattle.ap_term.specs.TermView.{tree_of}
use Rattle.ap_term.specs.Goals.{instance_part}
use Rattle.ap_term.specs.Substitution.{instance, Subst, shift}
use Rattle.ap_term.specs.Unification.{mgu}
use Rattle.ap_term.specs.Search.{child, way_if}
use Rattle.ap_spec.specs.Shifts.{shift_within}
use Rattle.ap_spec.specs.States.{state_of, behind_of}
use Rattle.ap_spec.proofs.Shifts.{shift-head}
use Rattle.ap_spec.proofs.states.add_by_clause.Goals as goal

pub returns-in-Some : goal.returns-in-Some
returns-in-Some c =
    let n = c.args.s.now.next in
    let clause = c.args.clause.now in
    let unifier : Some c.in-Some.binds ≡ mgu (tree_of c.args.goal.now) (instance (shift n) clause.head) =
    rw c.in-Some.is at c.in_ok-binds.ensures.mgu
    ∙ ap (mgu (tree_of c.args.goal.now)) (c.in_ok-head.ensures ∙ ap (instance (shift_within n)) c.head-2.ensures.head ∙ shift-head n clause c.requires.room c.head-2.ensures.kept) in
    subst (λ (o : Option Subst). OnOk c.add_unified.result (c.add_unified.new.out ≡ c.args.out.now ++ map (child (state_of c.args.s.now) (behind_of c.args.rest.now)) (way_if o (map (instance_part (shift n)) clause.body) (clause.vars + 1))))
    unifier c.add_unified.ensures

pub returns : goal.returns
returns c =
    let n = c.args.s.now.next in
    let clause = c.args.clause.now in
    let unifier : None ≡ mgu (tree_of c.args.goal.now) (instance (shift n) clause.head) =
    rw c.in-None.is at c.in_ok-binds.ensures.mgu
    ∙ ap (mgu (tree_of c.args.goal.now)) (c.in_ok-head.ensures ∙ ap (instance (shift_within n)) c.head-2.ensures.head ∙ shift-head n clause c.requires.room c.head-2.ensures.kept) in
    sym (append-nil c.args.out.now)
    ∙ ap (λ o. c.args.out.now ++ map (child (state_of c.args.s.now) (behind_of c.args.rest.now)) (way_if o (map (instance_part (shift n)) clause.body) (clause.vars + 1))) unifier
