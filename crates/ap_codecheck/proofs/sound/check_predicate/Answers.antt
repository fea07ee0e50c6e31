use Rattle.ap_codecheck.proofs.Tried.{keeps-all}
use Rattle.ap_codecheck.proofs.sound.check_predicate.Goals as goal
use Rattle.std.proofs.lemmas.Result.{on_ok_weaker}

pub returns-clause-ok : goal.returns-clause-ok
returns-clause-ok c =
    on_ok_weaker _ (keeps-all c.args.code.now c.args.p.now c.in_ok-check_operands.ensures.ok) c.check_paths.ensures.ok
