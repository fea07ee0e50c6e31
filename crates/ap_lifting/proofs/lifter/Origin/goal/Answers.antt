use Rattle.std.proofs.Common.{slice_index, ap, sym, ◌∙◌, arith}
use Rattle.std.proofs.lemmas.List.{get_or_default}
use Rattle.ap_term.specs.Tree.{node}
use Rattle.ap_lifting.proofs.Kept.{applied-variables}
use Rattle.ap_lifting.proofs.lifter.Origin.goal.Goals as goal

pub returns : goal.returns
returns c =
    let o = c.args.self.now in
    ap (λ a. node a c.in_ok-args.args) (get_or_default o.names.now c.args.number c.index-self-number.result 0 c.requires)
    ∙ ap (node (slice_index o.names.now c.args.number)) c.in_ok-args.ensures
    ∙ sym (applied-variables (slice_index o.names.now c.args.number) o.vars (omega arith))
