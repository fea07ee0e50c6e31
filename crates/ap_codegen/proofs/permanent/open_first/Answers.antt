use Rattle.std.proofs.Common.{◌+◌, refl, ap, ◌∙◌, arith}
use Rattle.ap_term.specs.TermView.{tree_of}
use Rattle.ap_codegen.specs.Emitted.{steps_of}
use Rattle.ap_codegen.proofs.Turns.{first-behind, open-node, open-plain}
use Rattle.ap_codegen.proofs.permanent.open_first.Goals as goal

pub returns-in_ok-open-in-Node : goal.returns-in_ok-open-in-Node
returns-in_ok-open-in-Node c =
    open-node c.args.whole.terms.now c.t-item.result c.in-Node.name c.in-Node.args c.args.whole.free c.in_ok-at-in-Node.at _ c.args.left.now.items c.push.new.self.items c.open.new.left.items c.args.seen.now.items
    c.open.new.seen.items (steps_of c.args.code.now.items) (steps_of c.open.new.code.items) (first-behind c.args.whole.terms.now c.t-item.result (omega arith) c.t-item.is) (ap tree_of c.in-Node.is) refl
    (c.in_ok-at-in-Node.ensures ∙ ap (λ n. c.args.whole.free + n) c.inner.ensures) c.in_ok-push.ensures.items c.in_ok-open-in-Node.ensures

pub returns-in_default-t : goal.returns-in_default-t
returns-in_default-t c =
    open-plain c.args.whole.terms.now c.t-item.result c.args.whole.free _ c.args.left.now.items c.push.new.self.items c.args.seen.now.items (steps_of c.args.code.now.items)
    (first-behind c.args.whole.terms.now c.t-item.result (omega arith) c.t-item.is) c.in_default-t.not-Node refl c.in_ok-push.ensures.items
