use Rattle.std.proofs.Common.{sym, subst}
use Rattle.ap_machine.specs.View.{Paused}
use Rattle.ap_machine.specs.Advanced.{Advanced}
use Rattle.ap_machine.proofs.Progress.{unchanged, counted}
use Rattle.ap_machine.proofs.state.Search.make_call.Goals as goal

pub returns-in_err-enter-clause-advanced : goal.returns-in_err-enter-clause-advanced
returns-in_err-enter-clause-advanced c = unchanged c.args.sound.now c.args.self.now c.enter.new.self c.in_err-enter.ensures.kept

pub returns-clause-advanced : goal.returns-clause-advanced
returns-clause-advanced c =
    let P : Paused → Type 0 = λ s. Advanced c.args.sound.now c.args.self.now s in
    subst P (sym c.count.ensures) (counted c.args.sound.now c.args.self.now c.enter.new.self (λ p good stands. c.in_ok-enter.ensures.turn p c.requires.due.1.0 c.requires.due.1.1 good stands) c.enter.ensures.stays c.enter.ensures.live)
