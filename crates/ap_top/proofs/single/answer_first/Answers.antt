use Rattle.std.proofs.Common.{◌≡◌, [], Err, None, Some, slice_get, sym, ap, ◌∙◌, subst, rules}
use Rattle.ap_outside.specs.Pieces.{Puts}
use Rattle.ap_outside.specs.Halting.{Finishes}
use Rattle.ap_outside.proofs.Puts.{puts_map}
use Rattle.ap_outside.proofs.Halts.{passes_halt}
use Rattle.ap_lexer.specs.Piece.{pieces}
use Rattle.ap_clause.specs.Reads.{AcceptsQuery, RefusesQuery}
use Rattle.ap_clause.specs.declared.refusal.Refusal.TheVariants as refusal
use Rattle.ap_worker.specs.Sought.{MayBeAsked}
use Rattle.ap_top.specs.Output.{AreAnswers, IsCounted}
use Rattle.ap_top.specs.Single.{FirstEnds}
use Rattle.ap_top.proofs.Pieces.{refused}
use Rattle.ap_top.proofs.FirstQuery.{first-of, none-of, contains-first, no-query, query-refused, query-answered, some-answered, first-counted}
use Rattle.ap_top.proofs.Uncalled.{query-may-be-asked}
use Rattle.ap_top.proofs.single.answer_first.Goals as goal

pub returns-in_default-first-clause-lines : goal.returns-in_default-first-clause-lines
returns-in_default-first-clause-lines g c =
    let none : slice_get c.in-Ok.pieces.items 0 ≡ None = search rules in
    no-query c.args.bounds.budget c.args.bounds.answers c.args.program.now c.args.atoms.now c.args.text.now _ (sym c.in-Ok.ensures.pieces ∙ none-of c.in-Ok.pieces.items none)

pub put_once-requires-clause-asked : goal.put_once-requires-clause-asked
put_once-requires-clause-asked g c κs within =
    let same : c.program-whole.result.now ≡ c.args.program.now = search rules in
    let accepts = subst (λ p. AcceptsQuery c.args.text.now c.in-Some.piece.now p c.args.atoms.now c.in-Ok-query.query c.query.new.atoms) same c.in-Ok-query.ensures.accepts in
    subst (λ p. MayBeAsked p c.in-Ok-query.query) (sym c.in-Ok-of.ensures)
    (query-may-be-asked c.args.text.now c.in-Some.piece.now c.args.program.now c.args.atoms.now c.in-Ok-query.query c.query.new.atoms c.requires.query accepts)

pub returns-in_err-ended-in-Ok-query-clause-lines : goal.returns-in_err-ended-in-Ok-query-clause-lines
returns-in_err-ended-in-Ok-query-clause-lines g c =
    let b = c.args.bounds.budget in
    let n = c.args.bounds.answers in
    let program = c.args.program.now in
    let piece = c.in-Some.piece.now in
    let some : slice_get c.in-Ok.pieces.items 0 ≡ Some piece = search rules in
    let first = first-of piece c.in-Ok.pieces.items some in
    let is = sym c.in-Ok.ensures.pieces ∙ first.1 in
    let same : c.program-whole.result.now ≡ program = search rules in
    let accepts = subst (λ p. AcceptsQuery c.args.text.now piece p c.args.atoms.now c.in-Ok-query.query c.query.new.atoms) same c.in-Ok-query.ensures.accepts in
    let failed : c.from_residual.result ≡ Err c.in_err-ended-in-Ok-query.field-0.0 = search rules in
    passes_halt _ _ (AreAnswers b n program c.query.new.atoms c.in-Ok-query.query) (FirstEnds b n program c.args.atoms.now c.args.text.now)
    (some-answered b n program c.args.atoms.now c.args.text.now piece first.0 c.in-Ok-query.query c.query.new.atoms is accepts)
    c.put_once.result _ c.in_err-ended-in-Ok-query.field-0.0 c.in_err-ended-in-Ok-query.was failed
    (subst (λ p. Finishes (g.K.Sink.pieces c.args.out.now) (g.K.Sink.pieces c.put_once.new.out) (AreAnswers b n p c.query.new.atoms c.in-Ok-query.query) c.put_once.result) c.in-Ok-of.ensures c.put_once.ensures.lines)

pub returns-in-Ok-query-clause-lines : goal.returns-in-Ok-query-clause-lines
returns-in-Ok-query-clause-lines g c =
    let b = c.args.bounds.budget in
    let n = c.args.bounds.answers in
    let program = c.args.program.now in
    let piece = c.in-Some.piece.now in
    let some : slice_get c.in-Ok.pieces.items 0 ≡ Some piece = search rules in
    let first = first-of piece c.in-Ok.pieces.items some in
    let is = sym c.in-Ok.ensures.pieces ∙ first.1 in
    let same : c.program-whole.result.now ≡ program = search rules in
    let accepts = subst (λ p. AcceptsQuery c.args.text.now piece p c.args.atoms.now c.in-Ok-query.query c.query.new.atoms) same c.in-Ok-query.ensures.accepts in
    let ended = c.in_ok-ended-in-Ok-query.ended in
    puts_map _ _ (AreAnswers b n program c.query.new.atoms c.in-Ok-query.query ended) (FirstEnds b n program c.args.atoms.now c.args.text.now (Some ended))
    (query-answered b n program c.args.atoms.now c.args.text.now piece first.0 c.in-Ok-query.query c.query.new.atoms is accepts ended)
    (subst (λ p. Puts (g.K.Sink.pieces c.args.out.now) (g.K.Sink.pieces c.put_once.new.out) (AreAnswers b n p c.query.new.atoms c.in-Ok-query.query ended)) c.in-Ok-of.ensures c.in_ok-ended-in-Ok-query.ensures.lines)

pub returns-in-Ok-query-clause-counted : goal.returns-in-Ok-query-clause-counted
returns-in-Ok-query-clause-counted g c =
    let kind = c.args.bounds.kind in
    let b = c.args.bounds.budget in
    let n = c.args.bounds.answers in
    let program = c.args.program.now in
    let piece = c.in-Some.piece.now in
    let some : slice_get c.in-Ok.pieces.items 0 ≡ Some piece = search rules in
    let first = first-of piece c.in-Ok.pieces.items some in
    let is = sym c.in-Ok.ensures.pieces ∙ first.1 in
    let same : c.program-whole.result.now ≡ program = search rules in
    let accepts = subst (λ p. AcceptsQuery c.args.text.now piece p c.args.atoms.now c.in-Ok-query.query c.query.new.atoms) same c.in-Ok-query.ensures.accepts in
    let ended = c.in_ok-ended-in-Ok-query.ended in
    first-counted kind b n program c.args.atoms.now c.args.text.now piece first.0 c.in-Ok-query.query c.query.new.atoms _ _ ended is accepts
    (subst (λ p. Puts (g.K.Sink.pieces c.args.out.now) (g.K.Sink.pieces c.put_once.new.out) (IsCounted kind b n p c.query.new.atoms c.in-Ok-query.query ended)) c.in-Ok-of.ensures c.in_ok-ended-in-Ok-query.ensures.counted)

pub returns : goal.returns
returns g c =
    let b = c.args.bounds.budget in
    let n = c.args.bounds.answers in
    let program = c.args.program.now in
    let piece = c.in-Some.piece.now in
    let r = c.in-Err._refusal in
    let some : slice_get c.in-Ok.pieces.items 0 ≡ Some piece = search rules in
    let first = first-of piece c.in-Ok.pieces.items some in
    let is = sym c.in-Ok.ensures.pieces ∙ first.1 in
    let same : c.program-whole.result.now ≡ program = search rules in
    let other : r ≡ refusal.NoMemory → ⊥ = search rules in
    let refuses = subst (λ p. RefusesQuery c.args.text.now piece p c.args.atoms.now r) same (refused (RefusesQuery c.args.text.now piece c.program-whole.result.now c.args.atoms.now) r other c.in-Err.ensures.refuses) in
    record {
      lines = query-refused b n program c.args.atoms.now c.args.text.now _ piece first.0 r is refuses;
      counted = search rules;
      total = search rules;
      one = search rules;
      count = search rules;
    }
