use Rattle.ap_index.proofs.Left.{filled-last}
use Rattle.ap_index.proofs.rows.end_of_row.Goals as goal

pub returns-in-Some : goal.returns-in-Some
returns-in-Some c =
    filled-last c.args.code.now c.args.at c.in-Some.last c.in-Some.ensures c.in_ok-row.row c.put.new.self c.in_ok-row.ensures.first c.in_ok-row.ensures.only c.put.ensures.first c.put.ensures.only
