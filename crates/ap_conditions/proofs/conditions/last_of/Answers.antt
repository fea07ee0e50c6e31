use Rattle.std.proofs.Common.{◌+◌, sym, ap, refl, ◌∙◌, arith}
use Rattle.std.proofs.lemmas.Bool.{eqb-true}
use Rattle.ap_sharing.specs.VarSet.{has, empty}
use Rattle.ap_sharing.proofs.Elements.{has-empty}
use Rattle.ap_conditions.proofs.Sets.{kept_above}
use Rattle.ap_conditions.proofs.conditions.last_of.Goals as goal

pub loop-x-init : goal.loop-x-init
loop-x-init c = λ y h. refl

pub returns-then-is_empty-clause-above : goal.returns-then-is_empty-clause-above
returns-then-is_empty-clause-above c = λ y h k.
    sym (c.loop-x.invariant y h) ∙ ap (λ s. has s y) (eqb-true c.loop-x.left empty (sym c.is_empty.ensures ∙ c.if-is_empty.true)) ∙ has-empty y

pub loop-x-preserved : goal.loop-x-preserved
loop-x-preserved c = λ y h.
    ap (λ s. has s y) c.remove.ensures ∙ kept_above c.loop-x.left (c.loop-x.x + 1) y h ∙ c.loop-x.invariant y (omega (arith, h))
