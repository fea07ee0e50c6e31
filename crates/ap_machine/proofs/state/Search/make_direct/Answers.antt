use Rattle.std.proofs.Common.{refl, sym, subst}
use Rattle.ap_standing.specs.Machine.{inside}
use Rattle.ap_machine.specs.View.{Paused}
use Rattle.ap_machine.specs.Advanced.{Advanced}
use Rattle.ap_machine.proofs.Living.{live-on}
use Rattle.ap_machine.proofs.Progress.{unchanged, counted}
use Rattle.ap_machine.proofs.state.Search.make_direct.Goals as goal

pub returns-in_err-solve_direct-clause-advanced : goal.returns-in_err-solve_direct-clause-advanced
returns-in_err-solve_direct-clause-advanced c = unchanged c.args.code.now c.args.self.now c.solve_direct.new.self c.in_err-solve_direct.ensures.kept

pub returns-clause-advanced : goal.returns-clause-advanced
returns-clause-advanced c =
    let P : Paused → Type 0 = λ s. Advanced c.args.code.now c.args.self.now s in
    subst P (sym c.count.ensures) (counted c.args.code.now c.args.self.now c.solve_direct.new.self (λ p good stands. c.in_ok-solve_direct.ensures.turn p good) c.solve_direct.ensures.stays
    (live-on c.args.code.now c.args.self.now.machine c.solve_direct.new.self.machine (inside c.requires.due.0) c.requires.due.2 (λ qs. refl) c.solve_direct.ensures.points))
