use Rattle.std.proofs.Common.{◌∙◌, ap, sym}
use Rattle.ap_term.specs.TermView.{tree_of}
use Rattle.ap_patterns.specs.Given.{patterns}
use Rattle.ap_udg.specs.Lone.{is_lone_body}
use Rattle.ap_udg.proofs.Annotations.{clause-formed}
use Rattle.ap_udg.proofs.LoneBodies.{lone-annotated}
use Rattle.ap_udg.proofs.annotators.annotated_clause.Goals as goal

pub new-requires : goal.new-requires
new-requires c =
    clause-formed c.args.rule (patterns c.args.table.now) c.args.clause.now (tree_of c.in_ok-head.head) c.in_ok-body.body c.vars.result c.line.result c.head.ensures.kept
    (c.in_ok-head.ensures ∙ c.head.ensures.head) c.in_ok-body.ensures c.vars.ensures.vars

pub returns-then-is_lone_body : goal.returns-then-is_lone_body
returns-then-is_lone_body c =
    let w = ap is_lone_body (sym (c.as_slice.ensures ∙ c.body.ensures.body)) ∙ sym c.is_lone_body.ensures ∙ c.if-is_lone_body.true in
    lone-annotated c.args.rule (patterns c.args.table.now) c.args.clause.now c.copy_clause.result w c.copy_clause.ensures
