use Rattle.std.proofs.Common.{length}
use Rattle.ap_machine.proofs.Sanity.{went-back, few-arguments}
use Rattle.ap_machine.proofs.calls.back_to_newest.Goals as goal

pub returns-in-Some-clause-back : goal.returns-in-Some-clause-back
returns-in-Some-clause-back c = λ m ms e.
    went-back c.args.cells.now c.undo_to.new.self c.args.environments.now c.go_back.new.self c.go_back.new.x c.clear_y.new.registers c.in-Some.choice m ms e c.in-Some.ensures.some
    c.undo_to.ensures.cells c.undo_to.ensures.older c.undo_to.ensures.older_leads (c.go_back.ensures.back m ms e)
    (c.go_back.ensures.arguments m ms e (few-arguments c.args.cells.now c.args.environments.now.moments (length c.args.x.now) c.requires m ms e))
    (length c.args.y.now) c.clear_y.ensures
