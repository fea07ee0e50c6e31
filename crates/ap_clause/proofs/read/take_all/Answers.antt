use Rattle.std.proofs.Common.{◌≡◌, Ok, refl, subst}
use Rattle.std.specs.Prelude.{◌⊎◌}
use Rattle.ap_lexer.specs.Piece.{pieces, pieces_behind}
use Rattle.ap_clause.specs.declared.refusal.Refusal.TheVariants as refusal
use Rattle.ap_clause.specs.Reads.{Reads, Whole, Stopped, start}
use Rattle.ap_clause.specs.Verdict.{position}
use Rattle.ap_clause.specs.Parts.{ReadsFurther}
use Rattle.ap_clause.proofs.read.take_all.Goals as goal

pub returns-in-Ok-None-clause-verdict : goal.returns-in-Ok-None-clause-verdict
returns-in-Ok-None-clause-verdict c =
    let text = c.args.text.now in
    let first = start c.args.atoms.now in
    let last = position c.take_until.new.atoms c.take_until.new.counts in
    let all = c.take_until.new.rules.items in
    let reads = subst (λ r. ReadsFurther text (pieces_behind text 0) first c.new-rules.result.items last all (Ok r)) c.in-Ok-None.field-0-is (c.in-Ok-None.ensures.reads text refl refl) in
    subst (λ rs. Reads text (pieces text) first rs (Whole all last)) c.new-rules.ensures.items (reads (Whole all last) refl)

pub returns-in-Err-clause-verdict : goal.returns-in-Err-clause-verdict
returns-in-Err-clause-verdict c =
    let text = c.args.text.now in
    subst (λ rs. (c.in-Err.refusal ≡ refusal.NoMemory) ⊎ Reads text (pieces text) (start c.args.atoms.now) rs (Stopped c.in-Err.refusal)) c.new-rules.ensures.items (c.in-Err.ensures.reads text refl refl)
