use Rattle.ap_machine.specs.Advanced.{GoesOn}
use Rattle.ap_machine.specs.Choices.{Stays}
use Rattle.ap_machine.specs.Live.{KeepsLive}
use Rattle.ap_machine.specs.Lasting.{moves_left}
use Rattle.ap_machine.proofs.state.Search.find_due.Given as goal

abbrev pub decreases-moves : goal.decreases-moves
decreases-moves l = moves_left l.sound l.self.machine

abbrev pub invariant-moves : goal.invariant-moves
invariant-moves l = record {
  holds : GoesOn l.sound l.fn.self.machine l.self.machine;
  stays : Stays l.fn.self l.self;
  live : KeepsLive l.sound l.fn.self.machine l.self.machine;
}
