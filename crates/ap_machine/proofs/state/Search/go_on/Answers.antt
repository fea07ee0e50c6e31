use Rattle.std.proofs.Common.{refl, subst}
use Rattle.ap_instr.specs.Code.{Compiled}
use Rattle.ap_standing.specs.Machine.{calling, inside}
use Rattle.ap_standing.specs.Laws.{KeepsStanding}
use Rattle.ap_machine.proofs.Living.{live-on}
use Rattle.ap_machine.proofs.state.Search.go_on.Goals as goal

pub returns-in-Calling-clause-holds : goal.returns-in-Calling-clause-holds
returns-in-Calling-clause-holds c =
    λ apart. subst (λ (k : Compiled). KeepsStanding k c.args.self.now.machine c.at_call.new.self.machine) c.code-code.ensures.same c.at_call.ensures.holds

pub returns-in-Calling-clause-live : goal.returns-in-Calling-clause-live
returns-in-Calling-clause-live c =
    live-on c.args.sound.now c.args.self.now.machine c.at_call.new.self.machine (calling c.in-Calling.number) c.in-Calling.ensures (λ qs. refl) c.at_call.ensures.points

pub returns-in-Inside-clause-live : goal.returns-in-Inside-clause-live
returns-in-Inside-clause-live c = live-on c.args.sound.now c.args.self.now.machine c.go_inside.new.self.machine (inside c.in-Inside.at) c.in-Inside.ensures (λ qs. refl) c.go_inside.ensures.points
