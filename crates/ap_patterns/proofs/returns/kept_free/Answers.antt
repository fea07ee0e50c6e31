use Rattle.std.proofs.Common.{◌+◌, ap, ◌∙◌, refl, arith}
use Rattle.ap_term.specs.TermView.{trees_of}
use Rattle.ap_sharing.specs.VarSet.{union}
use Rattle.ap_sharing.proofs.Elements.{empty-union}
use Rattle.ap_absunify.proofs.Parts.{numbered-item}
use Rattle.ap_patterns.specs.AfterCall.{kept_free}
use Rattle.ap_patterns.proofs.Arguments.{kept_free-turn, terms_done}
use Rattle.ap_patterns.proofs.returns.kept_free.Goals as goal

pub loop-i-preserved : goal.loop-i-preserved
loop-i-preserved c = record {
  whole =
      kept_free-turn c.args.free.now c.args.success.now c.loop-i.kept c.union-kept.result c.loop-i.i
      (union c.new-kept.result (kept_free 1 c.args.free.now c.args.success.now (trees_of c.args.args.now))) c.index-args-i.result c.args.args.now (omega arith) c.index-args-i.is
      (c.union-kept.ensures ∙ ap (union c.loop-i.kept) c.kept_argument.ensures) c.loop-i.invariant.whole;
  numbers = (numbered-item 255 c.args.args.now c.loop-i.i c.index-args-i.result (omega arith) c.index-args-i.is c.loop-i.invariant.numbers).1;
}

pub returns : goal.returns
returns c =
    terms_done (kept_free (c.loop-i.i + 1) c.args.free.now c.args.success.now) refl c.args.args.now c.loop-i.i c.loop-i.kept
    (union c.new-kept.result (kept_free 1 c.args.free.now c.args.success.now (trees_of c.args.args.now))) c.loop-i-test.false c.loop-i.invariant.whole
    ∙ ap (λ z. union z (kept_free 1 c.args.free.now c.args.success.now (trees_of c.args.args.now))) c.new-kept.ensures
    ∙ empty-union (kept_free 1 c.args.free.now c.args.success.now (trees_of c.args.args.now))
