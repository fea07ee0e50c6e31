use Rattle.std.proofs.lemmas.Result.{on_ok_weaker}
use Rattle.ap_fixpoint.proofs.Puts.{put-call, put-success}
use Rattle.ap_fixpoint.proofs.tables.put.Goals as goal

pub returns-in-Call : goal.returns-in-Call
returns-in-Call c =
    on_ok_weaker c.set_call.result (λ e. put-call c.args.table.now c.set_call.new.self c.args.slot c.in-Call.predicate c.args.pattern c.in-Call.is e) c.set_call.ensures

pub returns-in-Success : goal.returns-in-Success
returns-in-Success c =
    on_ok_weaker c.set_success.result (λ e. put-success c.args.table.now c.set_success.new.self c.args.slot c.in-Success.predicate c.args.pattern c.in-Success.is e) c.set_success.ensures
