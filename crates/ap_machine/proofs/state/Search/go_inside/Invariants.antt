use Rattle.std.proofs.Common.{◌≡◌, ◌-◌, length}
use Rattle.ap_standing.specs.Machine.{inside}
use Rattle.ap_standing.specs.Laws.{KeepsStanding}
use Rattle.ap_machine.specs.Choices.{Stays}
use Rattle.ap_machine.specs.Lasting.{SameRest}
use Rattle.ap_machine.proofs.state.Search.go_inside.Given as goal

abbrev pub decreases-goals : goal.decreases-goals
decreases-goals l = length l.sound.instructions - l.place

abbrev pub invariant-goals : goal.invariant-goals
invariant-goals l = record {
  holds : KeepsStanding l.sound l.fn.self.machine l.self.machine;
  stays : Stays l.fn.self l.self;
  rest : SameRest l.fn.self.machine l.self.machine;
  here : l.self.machine.now ≡ inside l.place;
}
