use Rattle.std.proofs.Common.{◌∙◌, sym, subst}
use Rattle.ap_term.specs.TermView.{tree_of}
use Rattle.ap_term.specs.WellFormed.{IsClause}
use Rattle.ap_cge.proofs.Stripping.{same_clause, stripped-body, stripped-formed}
use Rattle.ap_cge.proofs.plain.strip_clause.Goals as goal

pub new-requires : goal.new-requires
new-requires c =
    let parts = stripped-body c.as_slice-part-items.result.now c.loop-part.part-index c.loop-part.body c.args.clause.now.body c.loop-part.invariant c.loop-part-test.false (c.as_slice-part-items.ensures ∙ c.body.ensures.body) in
    subst IsClause
    (sym (same_clause c.args.clause.now (tree_of c.in_ok-head.head) c.loop-part.body c.vars.result c.line.result (c.in_ok-head.ensures ∙ c.head.ensures.head) parts c.vars.ensures.vars c.line.ensures))
    (stripped-formed c.args.clause.now c.body.ensures.kept)

pub returns : goal.returns
returns c =
    let parts = stripped-body c.as_slice-part-items.result.now c.loop-part.part-index c.loop-part.body c.args.clause.now.body c.loop-part.invariant c.loop-part-test.false (c.as_slice-part-items.ensures ∙ c.body.ensures.body) in
    c.new.ensures ∙ same_clause c.args.clause.now (tree_of c.in_ok-head.head) c.loop-part.body c.vars.result c.line.result (c.in_ok-head.ensures ∙ c.head.ensures.head) parts c.vars.ensures.vars c.line.ensures
