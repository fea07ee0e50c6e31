use Rattle.std.proofs.Common.{refl, sym, subst}
use Rattle.ap_standing.specs.Machine.{inside}
use Rattle.ap_machine.specs.View.{Paused}
use Rattle.ap_machine.specs.Advanced.{Advanced}
use Rattle.ap_machine.proofs.Living.{live-on}
use Rattle.ap_machine.proofs.Progress.{unchanged, counted}
use Rattle.ap_machine.proofs.state.Search.make_goal.Goals as goal

pub returns-in_err-solve_builtin-clause-advanced : goal.returns-in_err-solve_builtin-clause-advanced
returns-in_err-solve_builtin-clause-advanced c = unchanged c.args.code.now c.args.self.now c.solve_builtin.new.self c.in_err-solve_builtin.ensures.kept

pub returns-clause-advanced : goal.returns-clause-advanced
returns-clause-advanced c =
    let P : Paused → Type 0 = λ s. Advanced c.args.code.now c.args.self.now s in
    subst P (sym c.count.ensures) (counted c.args.code.now c.args.self.now c.solve_builtin.new.self (λ p good stands. c.in_ok-solve_builtin.ensures.turn p good) c.solve_builtin.ensures.stays
    (live-on c.args.code.now c.args.self.now.machine c.solve_builtin.new.self.machine (inside c.args.at) c.requires.due.0 (λ qs. refl) c.solve_builtin.ensures.points))
