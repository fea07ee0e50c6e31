use Rattle.std.proofs.Common.{sym, ap, ◌∙◌, arith}
use Rattle.ap_term.specs.Tree.{node}
use Rattle.ap_term.specs.TermView.{trees_of}
use Rattle.ap_term.proofs.TermLists.{count-trees_of}
use Rattle.ap_reach.specs.declared.called.Called.TheVariants.{All as Whole}
use Rattle.ap_reach.specs.Reached.{answers}
use Rattle.ap_reach.proofs.Naming.{argument-trees_of, heads-count, whole-answers}
use Rattle.ap_reach.proofs.predicates.Predicates.called.Goals as goal

pub returns-in-Some-clause-answers : goal.returns-in-Some-clause-answers
returns-in-Some-clause-answers c =
    let f = c.args.name in
    let ts = trees_of c.args.args.now in
    let count = c.loop-place.invariant ∙ sym (count-trees_of c.args.args.now) in
    c.in-Some.ensures.answers (node f ts) (heads-count f _ ts count)
    (argument-trees_of c.args.args.now c.loop-place.place c.index-args-place.result (omega arith) c.index-args-place.is)

pub returns-clause-answers : goal.returns-clause-answers
returns-clause-answers c =
    let f = c.args.name in
    let ts = trees_of c.args.args.now in
    ap (λ n. answers c.args.self.now (Whole f n) (node f ts)) (c.loop-place.invariant ∙ sym (count-trees_of c.args.args.now)) ∙ whole-answers c.args.self.now f ts
