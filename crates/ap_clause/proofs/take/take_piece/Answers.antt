use Rattle.std.proofs.Common.{subst}
use Rattle.ap_clause.specs.Reads.{JudgesBy}
use Rattle.ap_clause.specs.Verdict.{position, Gives}
use Rattle.ap_clause.proofs.take.take_piece.Goals as goal

pub returns-clause-verdict : goal.returns-clause-verdict
returns-clause-verdict c =
    subst (λ ts. Gives (λ v. JudgesBy c.args.piece.now.bad c.args.source (position c.args.atoms.now c.args.before) ts v) c.take_tokens.new.atoms c.take_tokens.result) c.in-Ok.ensures.ok.1
    c.take_tokens.ensures.verdict
