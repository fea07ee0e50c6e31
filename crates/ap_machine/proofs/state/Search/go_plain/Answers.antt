use Rattle.std.proofs.Common.{ap}
use Rattle.ap_standing.specs.Machine.{inside}
use Rattle.ap_machine.specs.View.{Paused}
use Rattle.ap_machine.proofs.Parted.{plain-for}
use Rattle.ap_machine.proofs.state.Search.go_plain.Goals as goal

pub returns-clause-goes : goal.returns-clause-goes
returns-clause-goes c = ap (λ (s : Paused). record s { machine = record s.machine { now = inside c.args.to } }) c.self.view_is

pub returns-clause-is_for : goal.returns-clause-is_for
returns-clause-is_for c = λ code w h. plain-for code c.args.self.now _ w.at c.args.to w.here (returns-clause-goes c) h
