use Rattle.std.proofs.Common.{◌+◌, ◌∙◌, ◌++◌, ◌∷◌, [], ◌&&◌, nat_lt, if◌then◌else◌, map, append_assoc, append-nil, ap, ap₂, sym, arith}
use Rattle.std.proofs.Math.Bool.{and-false}
use Rattle.std.specs.List.{filter}
use Rattle.ap_term.specs.declared.clauses.Check.TheVariants.{Indep}
use Rattle.ap_sharing.specs.VarSet.{has}
use Rattle.ap_conditions.specs.FullCondition.{numbers}
use Rattle.ap_conditions.proofs.Numbers.{picked-more, picked_below}
use Rattle.ap_conditions.proofs.conditions.add_indeps_with.Goals as goal

pub loop-y-init : goal.loop-y-init
unfolding numbers
loop-y-init c = sym (append-nil c.args.out.now)

pub loop-y-preserved : goal.loop-y-preserved
loop-y-preserved c =
    c.in_ok-push_if.ensures ∙ ap₂ (λ o b. o ++ (if b then Indep c.args.x (c.loop-y.y + 1) ∷ [] else [])) c.loop-y.invariant c.is_partner_above.ensures
    ∙ append_assoc c.args.out.now (map (Indep c.args.x) (filter (λ y. nat_lt c.args.x y && has c.args.partners y) (numbers c.loop-y.y)))
    (if nat_lt c.args.x (c.loop-y.y + 1) && has c.args.partners (c.loop-y.y + 1) then Indep c.args.x (c.loop-y.y + 1) ∷ [] else [])
    ∙ ap (λ l. c.args.out.now ++ l) (sym (picked-more (Indep c.args.x) (λ y. nat_lt c.args.x y && has c.args.partners y) c.loop-y.y))

pub returns : goal.returns
returns c =
    c.loop-y.invariant
    ∙ ap (λ l. c.args.out.now ++ l)
    (picked_below (Indep c.args.x) (λ y. nat_lt c.args.x y && has c.args.partners y) c.loop-y.y 255 (omega (arith, c.last_of-most.ensures.few))
    (λ y h k. ap (λ b. nat_lt c.args.x y && b) (c.last_of-most.ensures.above y (omega (arith, h)) k) ∙ and-false (nat_lt c.args.x y)))
