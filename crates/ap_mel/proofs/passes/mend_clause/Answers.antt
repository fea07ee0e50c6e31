use Rattle.std.proofs.Common.{◌∙◌, map}
use Rattle.ap_term.specs.TermView.{tree_of}
use Rattle.ap_term.specs.GoalView.{part_of}
use Rattle.ap_patterns.specs.Given.{patterns, is_analysed}
use Rattle.ap_udg.specs.Completed.{start}
use Rattle.ap_mel.specs.Mended.{is_bare}
use Rattle.ap_mel.proofs.Mending.{made-formed, mended-same}
use Rattle.ap_mel.proofs.passes.mend_clause.Goals as goal

pub new-requires : goal.new-requires
new-requires c =
    let t = patterns c.args.table.now in
    let d = c.args.clause.now in
    let body =
    mended-same c.is_bare-bare.result (is_bare c.args.kind c.args.written.now) c.is_analysed.result (is_analysed d) t c.in_ok-start.start (start t d) (map part_of c.as_slice-parts.result.now) d.body
    c.new-body.result c.mend_body.new.out c.new-body.ensures c.in_ok-settled.ensures.out c.is_bare-bare.ensures c.is_analysed.ensures c.in_ok-start.ensures (c.as_slice-parts.ensures ∙ c.body-2.ensures.body) in
    made-formed c.args.kind t c.args.written.now d (tree_of c.in_ok-head.head) c.mend_body.new.out c.vars.result c.line.result c.head.ensures.kept (c.in_ok-head.ensures ∙ c.head.ensures.head) body c.vars.ensures.vars
