use Rattle.std.proofs.Common.{◌<◌, ◌-◌, ◌∙◌, ap, sym, arith}
use Rattle.ap_spec.specs.Elimination.{eliminated}
use Rattle.ap_spec.specs.Pairs.{pair_of}
use Rattle.ap_spec.proofs.Eliminations.{behind, behind-turn, behind-done}
use Rattle.ap_spec.proofs.unification.eliminated.Goals as goal

pub loop-first-preserved : goal.loop-first-preserved
loop-first-preserved c =
    let some : 0 < c.loop-first.left = omega arith in
    let before = ap (λ es. behind c.loop-first.bound (eliminated c.loop-first.left es)) (sym c.in-Some.ensures) ∙ c.loop-first.invariant in
    ap (λ bs. behind bs (eliminated (c.loop-first.left - 1) c.in-Some-2.next)) c.in_ok-add.ensures
    ∙ behind-turn c.loop-first.bound c.loop-first.left (pair_of c.in-Some.first) _ c.in-Some-2.next _ some (sym c.if-occurs.ensures) (rw c.in-Some-2.is at c.in_ok-next.ensures) before

pub returns : goal.returns
returns c =
    behind-done c.loop-first.bound c.loop-first.left _ (ap (λ es. behind c.loop-first.bound (eliminated c.loop-first.left es)) (sym c.in_default.ensures) ∙ c.loop-first.invariant)
