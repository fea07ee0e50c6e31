use Rattle.ap_worker.proofs.Past.{past-good}
use Rattle.ap_worker.proofs.found.put_answer.Goals as goal

pub returns-clause-good : goal.returns-clause-good
returns-clause-good g c = λ p good runs.
    let same = c.redo.ensures.same in
    past-good p c.args.query.now c.redo.new.self same.0 same.1 same.2 same.3 same.4 c.redo.ensures.ready good runs
