use Rattle.std.proofs.Common.{◌≡◌, true, false, [], ◌∷◌, Err, ◌∙◌, subst, rules}
use Rattle.ap_outside.proofs.Puts.{puts_map}
use Rattle.ap_outside.proofs.Halts.{passes_halt}
use Rattle.ap_clause.specs.Reads.{AcceptsQuery, RefusesQuery}
use Rattle.ap_clause.specs.declared.refusal.Refusal.TheVariants as refusal
use Rattle.ap_top.specs.Counted.{IsCountedBlock, IsCountedPiece}
use Rattle.ap_top.specs.Output.{IsQueryBlock, PieceEnds}
use Rattle.ap_top.specs.Refusals.{refusal_line}
use Rattle.ap_top.specs.Status.{tally}
use Rattle.ap_top.proofs.Grown.{grown}
use Rattle.ap_top.proofs.Uncalled.{query-may-be-asked}
use Rattle.ap_top.proofs.Pieces.{refused, block_ends, some_block_ends, refusal_ends, some_refusal_ends, cut_back, cut_within}
use Rattle.ap_top.proofs.queries.print_piece.Goals as goal

pub print_query-requires-clause-asked : goal.print_query-requires-clause-asked
print_query-requires-clause-asked g c κs within = query-may-be-asked c.args.text.now c.args.piece.now c.args.program.now c.args.atoms.now c.in-Ok.query c.query.new.atoms c.requires.query (subst (λ p. AcceptsQuery c.args.text.now c.args.piece.now p c.args.atoms.now c.in-Ok.query c.query.new.atoms) c.program-whole.ensures c.in-Ok.ensures.accepts)

pub cut_to-requires : goal.cut_to-requires
cut_to-requires g c = cut_within c.args.atoms.now c.query.new.atoms c.mark-mark.result (grown c.args.text.now c.args.piece.now c.args.program.now c.args.atoms.now c.in-Ok.query c.query.new.atoms (subst (λ p. AcceptsQuery c.args.text.now c.args.piece.now p c.args.atoms.now c.in-Ok.query c.query.new.atoms) c.program-whole.ensures c.in-Ok.ensures.accepts)) c.mark-mark.ensures.mark

pub returns-in_err-spent-in-Ok-clause-lines : goal.returns-in_err-spent-in-Ok-clause-lines
returns-in_err-spent-in-Ok-clause-lines g c =
    let same : c.from_residual.result ≡ Err c.in_err-spent-in-Ok.field-0.0 = search rules in
    let b = c.args.bounds.budget in
    let n = c.args.bounds.answers in
    let program = c.args.program.now in
    let Ends = PieceEnds b n program c.args.atoms.now c.args.text.now c.args.piece.now in
    passes_halt _ _ (IsQueryBlock b n program c.query.new.atoms c.in-Ok.query) Ends (some_block_ends b n program c.args.atoms.now c.args.text.now c.args.piece.now c.in-Ok.query c.query.new.atoms (subst (λ p. AcceptsQuery c.args.text.now c.args.piece.now p c.args.atoms.now c.in-Ok.query c.query.new.atoms) c.program-whole.ensures c.in-Ok.ensures.accepts))
    c.print_query.result _ c.in_err-spent-in-Ok.field-0.0 c.in_err-spent-in-Ok.was same c.print_query.ensures.lines

pub returns-in_err-print_refusal-in-Err : goal.returns-in_err-print_refusal-in-Err
returns-in_err-print_refusal-in-Err g c =
    let same : c.from_residual-in_err-print_refusal-in-Err.result ≡ Err c.in_err-print_refusal-in-Err.field-0.0 = search rules in
    let b = c.args.bounds.budget in
    let n = c.args.bounds.answers in
    let program = c.args.program.now in
    let Ends = PieceEnds b n program c.args.atoms.now c.args.text.now c.args.piece.now in
    let r = c.in-Err.refusal in
    let other : r ≡ refusal.NoMemory → ⊥ = search rules in
    let refuses = subst (λ p. RefusesQuery c.args.text.now c.args.piece.now p c.args.atoms.now r) c.program-whole.ensures (refused (RefusesQuery c.args.text.now c.args.piece.now c.program-whole.result.now c.args.atoms.now) r other c.in-Err.ensures.refuses) in
    record {
      lines = passes_halt _ _ (λ _ put. put ≡ refusal_line c.query.new.atoms r ∷ []) Ends (some_refusal_ends b n program c.args.atoms.now c.args.text.now c.args.piece.now c.query.new.atoms r c.in-Err.ensures.table refuses)
          c.print_refusal.result _ c.in_err-print_refusal-in-Err.field-0.0 c.in_err-print_refusal-in-Err.was same c.print_refusal.ensures.lines;
      counted = search rules;
      count = search rules;
      table = search rules;
      kept = search rules;
    }

pub returns-in_ok-spent-in-Ok-clause-lines : goal.returns-in_ok-spent-in-Ok-clause-lines
returns-in_ok-spent-in-Ok-clause-lines g c =
    let b = c.args.bounds.budget in
    let n = c.args.bounds.answers in
    let program = c.args.program.now in
    let Ends = PieceEnds b n program c.args.atoms.now c.args.text.now c.args.piece.now in
    let spent = c.in_ok-spent-in-Ok.spent in
    puts_map _ _ (IsQueryBlock b n program c.query.new.atoms c.in-Ok.query spent) (Ends (tally spent false))
    (block_ends b n program c.args.atoms.now c.args.text.now c.args.piece.now c.in-Ok.query c.query.new.atoms (subst (λ p. AcceptsQuery c.args.text.now c.args.piece.now p c.args.atoms.now c.in-Ok.query c.query.new.atoms) c.program-whole.ensures c.in-Ok.ensures.accepts) spent) c.in_ok-spent-in-Ok.ensures.lines

pub returns-in_ok-spent-in-Ok-clause-table : goal.returns-in_ok-spent-in-Ok-clause-table
returns-in_ok-spent-in-Ok-clause-table g c = c.cut_to.ensures ∙ cut_back c.args.atoms.now c.query.new.atoms c.mark-mark.result (grown c.args.text.now c.args.piece.now c.args.program.now c.args.atoms.now c.in-Ok.query c.query.new.atoms (subst (λ p. AcceptsQuery c.args.text.now c.args.piece.now p c.args.atoms.now c.in-Ok.query c.query.new.atoms) c.program-whole.ensures c.in-Ok.ensures.accepts)) c.mark-mark.ensures.mark

pub returns-in_ok-print_refusal-in-Err : goal.returns-in_ok-print_refusal-in-Err
returns-in_ok-print_refusal-in-Err g c =
    let b = c.args.bounds.budget in
    let n = c.args.bounds.answers in
    let program = c.args.program.now in
    let Ends = PieceEnds b n program c.args.atoms.now c.args.text.now c.args.piece.now in
    let r = c.in-Err.refusal in
    let other : r ≡ refusal.NoMemory → ⊥ = search rules in
    let refuses = subst (λ p. RefusesQuery c.args.text.now c.args.piece.now p c.args.atoms.now r) c.program-whole.ensures (refused (RefusesQuery c.args.text.now c.args.piece.now c.program-whole.result.now c.args.atoms.now) r other c.in-Err.ensures.refuses) in
    record {
      lines = puts_map _ _ (λ put. put ≡ refusal_line c.query.new.atoms r ∷ []) (Ends (tally false true)) (refusal_ends b n program c.args.atoms.now c.args.text.now c.args.piece.now c.query.new.atoms r c.in-Err.ensures.table refuses) c.in_ok-print_refusal-in-Err.ensures.lines;
      counted = puts_map _ _ (λ put. put ≡ refusal_line c.query.new.atoms r ∷ []) (IsCountedPiece c.args.bounds c.args.crew.now.workers program c.args.atoms.now c.args.text.now c.args.piece.now) (λ ls is. IsCountedPiece.refused r ls refuses) c.in_ok-print_refusal-in-Err.ensures.lines;
      count = search rules;
      table = search rules;
      kept = search rules;
    }

pub returns-in_ok-spent-in-Ok-clause-counted : goal.returns-in_ok-spent-in-Ok-clause-counted
returns-in_ok-spent-in-Ok-clause-counted g c =
    let program = c.args.program.now in
    puts_map _ _ (IsCountedBlock c.args.bounds c.args.crew.now.workers program c.query.new.atoms c.in-Ok.query) (IsCountedPiece c.args.bounds c.args.crew.now.workers program c.args.atoms.now c.args.text.now c.args.piece.now)
    (λ ls block. IsCountedPiece.answered c.in-Ok.query c.query.new.atoms ls (subst (λ p. AcceptsQuery c.args.text.now c.args.piece.now p c.args.atoms.now c.in-Ok.query c.query.new.atoms) c.program-whole.ensures c.in-Ok.ensures.accepts) block) c.in_ok-spent-in-Ok.ensures.counted
