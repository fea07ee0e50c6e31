use Rattle.std.proofs.Common.{length, ap, subst, ◌∙◌, arith}
use Rattle.std.specs.Prelude.{slice_index}
use Rattle.ap_clause.specs.declared.source.Source.TheVariants as source
use Rattle.ap_clause.specs.Reads.{lifted_query, Judges, Took}
use Rattle.ap_clause.specs.Verdict.{taken_of, position}
use Rattle.ap_clause.proofs.Names.{length-atoms_from}
use Rattle.ap_clause.proofs.Taken.{judges_taken, query_taken}
use Rattle.ap_clause.proofs.read.read_query.Goals as goal

pub question-requires-clause-named : goal.question-requires-clause-named
question-requires-clause-named c =
    let counted = c.in-Ok.ensures.counted in
    let named = c.in-Ok-fresh_names.ensures in
    omega (arith, counted.1, named.2, ap length named.4, ap length c.deref.ensures.value, length-atoms_from (length c.take_piece.new.atoms) named.0)

pub question-requires-clause-head : goal.question-requires-clause-head
question-requires-clause-head c =
    let t = taken_of c.take_piece.new.atoms c.in-Ok.read in
    query_taken t (judges_taken source.Query c.args.text.now (position c.args.atoms.now (record { lifted = 0; clauses = length c.as_slice.result.now })) c.args.piece.now t c.in-Ok.ensures.verdict)

pub question-requires-clause-variables : goal.question-requires-clause-variables
question-requires-clause-variables c =
    let t = taken_of c.take_piece.new.atoms c.in-Ok.read in
    ap length c.in-Ok-variables_of.ensures ∙ (judges_taken source.Query c.args.text.now (position c.args.atoms.now (record { lifted = 0; clauses = length c.as_slice.result.now })) c.args.piece.now t c.in-Ok.ensures.verdict).named

pub returns-in-Ok-question-clause-accepts : goal.returns-in-Ok-question-clause-accepts
returns-in-Ok-question-clause-accepts c =
    let named = c.in-Ok-fresh_names.ensures in
    let t = taken_of c.take_piece.new.atoms c.in-Ok.read in
    (t, named.0, subst (λ n. Judges source.Query c.args.text.now (position c.args.atoms.now (record { lifted = 0; clauses = n })) c.args.piece.now (Took t)) (ap length c.as_slice.ensures.clauses) c.in-Ok.ensures.verdict, named.1, named.2, c.in-Ok-question.ensures ∙ ap (λ vs. lifted_query (slice_index c.deref.result.now) t.rule vs) c.in-Ok-variables_of.ensures ∙ ap (λ l. lifted_query (slice_index l) t.rule t.names) (c.deref.ensures.value ∙ named.4), named.3)
