use Rattle.std.proofs.Common.{◌≡◌, [], sym, subst}
use Rattle.ap_term.specs.GoalView.{part_of}
use Rattle.ap_absunify.specs.declared.states.State.{State}
use Rattle.ap_patterns.specs.Given.{patterns, given_at_fork, given_in_turn, given_by_part}
use Rattle.ap_fixpoint.specs.Uncovered.{uncovered}
use Rattle.ap_fixpoint.proofs.OpenGoals.{group-open}
use Rattle.ap_fixpoint.proofs.open.is_part_open.Goals as goal

pub returns-in-Group : goal.returns-in-Group
returns-in-Group c h s =
    let t = patterns c.args.table.now in
    subst (λ p. uncovered t (given_by_part t s (part_of p)) ≡ []) (sym c.in-Group.is)
    (group-open t c.in-Group.checks c.in-Group.calls (subst (λ gs. (r : State) → uncovered t (given_at_fork r gs) ≡ []) c.as_slice.ensures (c.are_open.ensures.at_fork h))
    (subst (λ gs. (r : State) → uncovered t (given_in_turn t r gs) ≡ []) c.as_slice.ensures (c.are_open.ensures.in_turn h)) s)
