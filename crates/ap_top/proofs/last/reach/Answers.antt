use Rattle.std.proofs.Common.{IfSome, subst}
use Rattle.ap_term.specs.Goals.{Program}
use Rattle.ap_reach.specs.Reached.{Reaches}
use Rattle.ap_mel.specs.declared.annotations.Kind.{Kind}
use Rattle.ap_top.specs.Last.{IsLast, IsLastOf}
use Rattle.ap_top.proofs.last.reach.Goals as goal

pub returns-in-Some-2 : goal.returns-in-Some-2
returns-in-Some-2 c =
    let p = c.args.program.now in
    let k = c.args.kind in
    let q = c.args.query.now in
    let last : IsLast p k c.in-Some.last = subst (λ o. IfSome o (IsLast p k)) c.in-Some.is c.requires in
    let found = subst (λ o. IfSome o (λ again. (r : Program) (kind : Kind) → IsLast r kind c.in-Some.last → Reaches r q c.in_ok-calls.calls → IsLastOf r kind q again)) c.in-Some-2.is c.in_ok-again.ensures in
    found p k last c.in_ok-calls.ensures
