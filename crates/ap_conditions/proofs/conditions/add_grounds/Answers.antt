use Rattle.std.proofs.Common.{◌+◌, ◌∙◌, ◌++◌, ◌∷◌, [], if◌then◌else◌, map, append_assoc, append-nil, ap, ap₂, sym, arith}
use Rattle.std.specs.List.{filter}
use Rattle.ap_term.specs.declared.clauses.Check.TheVariants.{Ground}
use Rattle.ap_sharing.specs.VarSet.{has}
use Rattle.ap_conditions.specs.FullCondition.{numbers}
use Rattle.ap_conditions.proofs.Numbers.{picked-more, picked_below}
use Rattle.ap_conditions.proofs.conditions.add_grounds.Goals as goal

pub loop-x-init : goal.loop-x-init
unfolding numbers
loop-x-init c = sym (append-nil c.args.out.now)

pub loop-x-preserved : goal.loop-x-preserved
loop-x-preserved c =
    c.in_ok-push_if.ensures ∙ ap₂ (λ o b. o ++ (if b then Ground (c.loop-x.x + 1) ∷ [] else [])) c.loop-x.invariant c.contains.ensures
    ∙ append_assoc c.args.out.now (map Ground (filter (λ x. has c.args.shared x) (numbers c.loop-x.x))) (if has c.args.shared (c.loop-x.x + 1) then Ground (c.loop-x.x + 1) ∷ [] else [])
    ∙ ap (λ l. c.args.out.now ++ l) (sym (picked-more Ground (λ x. has c.args.shared x) c.loop-x.x))

pub returns : goal.returns
returns c =
    c.loop-x.invariant
    ∙ ap (λ l. c.args.out.now ++ l) (picked_below Ground (λ x. has c.args.shared x) c.loop-x.x 255 (omega (arith, c.last_of-most.ensures.few)) (λ y h. c.last_of-most.ensures.above y (omega (arith, h))))
