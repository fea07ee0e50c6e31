use Rattle.std.proofs.Common.{sym, ◌∙◌}
use Rattle.ap_machine.proofs.Entered.{retried-holds, retried-fewer, retried-stays, retried-live}
use Rattle.ap_machine.proofs.state.Search.retry.Goals as goal

pub returns-clause-holds : goal.returns-clause-holds
returns-clause-holds c =
    let o = c.in-Some.ensures.some in
    retried-holds c.args.sound.now c.args.self.now c.go_back.new.self c.next_match.new.self c.leave.new.self c.resume.new.self o.0 o.1 o.2 c.requires.due c.go_back.ensures c.next_match.ensures.back
    c.widen_some.result (o.4 ∙ sym c.widen_some.ensures) c.in-Some.choice.place o.3 c.in_ok-found.found c.in_ok-found.ensures.left c.in_ok-leave.ensures.ok c.resume.ensures

pub returns-clause-fewer : goal.returns-clause-fewer
returns-clause-fewer c = λ e.
    let o = c.in-Some.ensures.some in
    retried-fewer c.args.sound.now c.args.self.now c.go_back.new.self c.next_match.new.self c.leave.new.self c.resume.new.self o.0 o.1 o.2 c.requires.due c.go_back.ensures c.next_match.ensures.back
    c.widen_some.result (o.4 ∙ sym c.widen_some.ensures) c.in-Some.choice.place o.3 c.in_ok-found.found c.in_ok-found.ensures.left c.in_ok-leave.ensures.ok c.resume.ensures

pub returns-clause-stays : goal.returns-clause-stays
returns-clause-stays c =
    let o = c.in-Some.ensures.some in
    retried-stays c.args.sound.now c.args.self.now c.go_back.new.self c.next_match.new.self c.leave.new.self c.resume.new.self o.0 o.1 o.2 c.requires.due c.go_back.ensures c.next_match.ensures.back
    c.widen_some.result (o.4 ∙ sym c.widen_some.ensures) c.in-Some.choice.place o.3 c.in_ok-found.found c.in_ok-found.ensures.left c.in_ok-leave.ensures.ok c.resume.ensures

pub returns-clause-live : goal.returns-clause-live
returns-clause-live c =
    let o = c.in-Some.ensures.some in
    retried-live c.args.sound.now c.args.self.now c.go_back.new.self c.next_match.new.self c.leave.new.self c.resume.new.self o.0 o.1 o.2 c.requires.due c.go_back.ensures c.next_match.ensures.back
    c.widen_some.result (o.4 ∙ sym c.widen_some.ensures) c.in-Some.choice.place o.3 c.in_ok-found.found c.in_ok-found.ensures.left c.in_ok-leave.ensures.ok c.resume.ensures c.in_ok-found.ensures.live
