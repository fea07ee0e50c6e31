use Rattle.std.proofs.Common.{◌<◌, [], ◌∷◌, length, ap, sym, subst, arith}
use Rattle.std.specs.List.{AllByRecursion}
use Rattle.ap_index.specs.Heads.{IsMet, AreNeeded}
use Rattle.ap_index.specs.Pairs.{IsPairOf, pair_for}
use Rattle.ap_index.proofs.Paired.{pair-more}
use Rattle.ap_index.proofs.row.Pairs.add.Goals as goal

pub returns : goal.returns
returns c =
    let code = c.args.code.now in
    let old = c.args.self.now in
    let new = c.put.new.self in
    let l = c.args.clause in
    let one = c.in-Some.one in
    let two = c.in-Some-asked_of.two in
    let own : l < length code.instructions = omega (arith, c.if-clause-instructions.false, ap length c.instructions.ensures) in
    let head = c.in_ok-head.ensures in
    let first : AreNeeded code l (record { argument = 1; key = one } ∷ []) = λ x y bs run. (c.in-Some.ensures x (subst (AllByRecursion (IsMet x)) (sym c.asks.ensures) (head.needed x y bs run)), tt) in
    let second : AreNeeded code l (record { argument = old.argument; key = two } ∷ []) =
    λ x y bs run. (c.in-Some-asked_of.ensures x (subst (AllByRecursion (IsMet x)) (sym c.asks-2.ensures) (head.needed x y bs run)), tt) in
    λ added ls h j k.
    subst (λ a. IsPairOf code a j k (l ∷ ls) (pair_for new j k)) (sym c.put.ensures.argument)
    (pair-more code old.argument l one two own first second j k ls (pair_for old j k) (pair_for new j k) old.count (c.put.ensures.told j k) (h j k))
