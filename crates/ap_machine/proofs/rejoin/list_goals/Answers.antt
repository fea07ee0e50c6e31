use Rattle.std.proofs.Common.{◌≡◌, ◌<◌, ◌≤◌, ◌∷◌, ◌++◌, List, [], length, slice_get, ap, ap₂, sym, ◌∙◌, subst, arith}
use Rattle.std.specs.List.{AllByRecursion}
use Rattle.ap_environments.specs.Kept.{Forked}
use Rattle.ap_environments.specs.declared.environments.Fork.{Fork}
use Rattle.ap_group.specs.Groups.{Pushed}
use Rattle.ap_machine.specs.Sane.{HasFrames}
use Rattle.ap_machine.proofs.Rejoining.{listed-more}
use Rattle.ap_machine.proofs.rejoin.list_goals.Goals as goal
use Rattle.ap_term.proofs.Lists.{slice_get-inside}

pub unreachable-requires : goal.unreachable-requires
unreachable-requires c =
    let s = c.in-Some.ensures.some in
    let f = s.1 in
    let same = ap (λ (u : Fork). u.goals) s.4 in
    let here : c.loop-i.i < c.in-Some.fork.goals = c.loop-i-test.true in
    let n : f.fork.goals ≤ length f.returns = (subst (AllByRecursion HasFrames) s.3 c.requires.frames).0.enough in
    slice_get-inside f.returns c.loop-i.i (omega arith) (c.goal.ensures.none c.in-None.is f s.2 s.3 (omega arith))

pub loop-i-preserved : goal.loop-i-preserved
loop-i-preserved c = λ f fs e.
    let s = c.in-Some-goal.ensures.some in
    let d : s.0 ∷ s.1 ≡ f ∷ fs = sym s.3 ∙ e in
    let same : s.0 ≡ f = cc in
    c.in_ok-push-in-Some-goal.ensures.ok
    ∙ ap₂ (λ (ps : List Pushed) (p : Pushed). ps ++ p ∷ []) (c.loop-i.invariant f fs e) (ap₂ (λ a b. record { predicate = a; arguments = b }) (sym s.6) (sym s.7))
    ∙ sym (listed-more c.loop-i.i f.returns s.2 (ap (λ (h : Forked). slice_get h.returns c.loop-i.i) (sym same) ∙ s.5))
