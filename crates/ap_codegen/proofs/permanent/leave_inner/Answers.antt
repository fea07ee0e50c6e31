use Rattle.std.proofs.Common.{refl, ap, sym, subst}
use Rattle.ap_term.specs.Tree.{more}
use Rattle.ap_term.specs.TermView.{tree_of}
use Rattle.ap_codegen.specs.Waiting.{MakesMore}
use Rattle.ap_codegen.proofs.Turns.{makes-node}
use Rattle.ap_codegen.proofs.permanent.leave_inner.Goals as goal

pub returns-in_ok-push : goal.returns-in_ok-push
returns-in_ok-push c = λ ts out i o.
    subst (λ v. MakesMore (more v ts) c.args.whole c.args.left.now.items out) (sym (ap tree_of c.in-Node.is))
    (makes-node ts c.args.whole c.args.left.now.items c.push.new.self.items out _ c.args.behind i c.in_ok-push.ensures.items c.in_ok-place.ensures refl c.in_ok-above.ensures o)
