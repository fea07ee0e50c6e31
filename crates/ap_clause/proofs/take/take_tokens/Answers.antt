use Rattle.std.proofs.Common.{◌≡◌, None, ap, map, rules}
use Rattle.ap_lexer.specs.Token.{view}
use Rattle.ap_clause.specs.Reads.{JudgesBy}
use Rattle.ap_clause.specs.Verdict.{position}
use Rattle.ap_clause.proofs.Verdicts.{gives, judges_open, judges_by, refused_by}
use Rattle.ap_clause.proofs.take.take_tokens.Goals as goal

pub returns-in-Ok-clause-verdict : goal.returns-in-Ok-clause-verdict
returns-in-Ok-clause-verdict c =
    let none : c.args.piece.now.bad ≡ None = search rules in
    let there : map view c.as_slice.result.now ≡ map view c.args.tokens.now.items = ap (map view) c.as_slice.ensures.value in
    let parsed = c.in-Ok.ensures.ok in
    let found = parsed.2 in
    let p = position c.args.atoms.now c.args.before in
    gives _ (λ v. JudgesBy c.args.piece.now.bad c.args.source p (map view c.args.tokens.now.items) v) c.take.new.atoms c.take.result
    (λ v e. judges_by c.args.piece.now.bad c.args.source p (map view c.as_slice.result.now) (map view c.args.tokens.now.items) v none there
    (judges_open c.args.source p (map view c.as_slice.result.now) found.0 found.1 c.in-Ok.written.line parsed.0 parsed.1 found.2 v e))
    (c.take.ensures.verdict found.0 found.1 found.3)

pub returns-in-Err-clause-verdict : goal.returns-in-Err-clause-verdict
returns-in-Err-clause-verdict c =
    let none : c.args.piece.now.bad ≡ None = search rules in
    refused_by c.args.piece.now.bad c.args.source (position c.args.atoms.now c.args.before) (map view c.as_slice.result.now) (map view c.args.tokens.now.items) c.in-Err.refusal none
    (ap (map view) c.as_slice.ensures.value) c.in-Err.ensures.err
