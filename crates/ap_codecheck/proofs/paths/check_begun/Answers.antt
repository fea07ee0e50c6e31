use Rattle.ap_codecheck.proofs.Tried.{err_more, fails-breaks}
use Rattle.ap_codecheck.proofs.paths.check_begun.Goals as goal

pub returns-clause-bad : goal.returns-clause-bad
returns-clause-bad c =
    err_more _ _ _ (λ e f. fails-breaks c.args.code.now c.args.p.now c.args.from e c.requires.begins f) c.check_clause.ensures.bad
