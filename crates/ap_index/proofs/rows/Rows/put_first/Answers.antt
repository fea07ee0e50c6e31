use Rattle.std.proofs.lemmas.Result.{on_ok_weaker}
use Rattle.ap_index.proofs.rows.Rows.put_first.Goals as goal

pub returns-in-Some : goal.returns-in-Some
returns-in-Some c =
    let held = rw c.in-Some.is at c.in_ok-number.ensures.held in
    on_ok_weaker c.put.result (λ put code h r. put code (c.in_ok-number.ensures.same code h) (c.args.row, held, r)) c.put.ensures
