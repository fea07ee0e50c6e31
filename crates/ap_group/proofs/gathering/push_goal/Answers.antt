use Rattle.std.proofs.Common.{◌≡◌, ◌+◌, ◌-◌, ◌∷◌, ◌++◌, [], take, drop, slice_get, Some, ap, sym, ◌∙◌, arith}
use Rattle.ap_group.proofs.Ways.{places-slice}
use Rattle.ap_group.proofs.gathering.push_goal.Goals as goal

pub returns-clause-pushed : goal.returns-clause-pushed
returns-clause-pushed c = λ yes.
    let q = c.in-Some.predicate in
    let e : slice_get c.args.code.now.predicates c.args.number ≡ Some q = sym c.in-Some.ensures in
    let l = c.requires.arities c.args.number q e in
    let p : c.push.new.self ≡ c.args.goals.now ++ record { predicate = c.args.number; arguments = take (1 + q.arity - 1) (drop 1 c.args.x.now) } ∷ [] = c.in_ok-push.ensures.ok in
    (q, e, p ∙ ap (λ rs. c.args.goals.now ++ record { predicate = c.args.number; arguments = rs } ∷ []) (let n : 1 + q.arity - 1 ≡ q.arity = omega arith in ap (λ m. take m (drop 1 c.args.x.now)) n ∙ sym (places-slice c.args.x.now 1 q.arity (omega arith))))
