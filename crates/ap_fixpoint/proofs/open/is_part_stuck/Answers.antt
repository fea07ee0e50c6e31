use Rattle.std.proofs.Common.{◌≡◌, sym, subst}
use Rattle.ap_term.specs.GoalView.{part_of}
use Rattle.ap_absunify.specs.declared.states.State.TheVariants.{Unreachable}
use Rattle.ap_patterns.specs.Given.{patterns, after_goals, after_part}
use Rattle.ap_fixpoint.proofs.open.is_part_stuck.Goals as goal

pub returns-in-Group : goal.returns-in-Group
returns-in-Group c h s =
    let t = patterns c.args.table.now in
    subst (λ p. after_part t s (part_of p) ≡ Unreachable) (sym c.in-Group.is) (subst (λ gs. after_goals t s gs ≡ Unreachable) c.as_slice.ensures (c.any_stuck.ensures h s))
