use Rattle.std.proofs.Common.{Contains, IfOk, subst, ◌∙◌}
use Rattle.std.proofs.lemmas.List.Elements.{All-same}
use Rattle.ap_lexer.specs.Piece as lexer
use Rattle.ap_outside.specs.Halting.{Finishes}
use Rattle.ap_outside.specs.Pieces.{Puts}
use Rattle.ap_top.specs.Counted.{IsCountedOutput}
use Rattle.ap_top.specs.Output.{IsOutput, judged}
use Rattle.ap_top.proofs.Layers.{judged_own}
use Rattle.ap_top.proofs.texts.print_text.Goals as goal

pub print_pieces-requires-clause-pieces : goal.print_pieces-requires-clause-pieces
print_pieces-requires-clause-pieces g c κs within =
    All-same (Contains (lexer.pieces c.args.text.now)) c.deref.result.now (judged c.args.whole c.args.text.now) (c.deref.ensures.value ∙ c.in-Ok.ensures) (judged_own c.args.whole c.args.text.now)

pub returns-clause-lines : goal.returns-clause-lines
returns-clause-lines g c =
    subst (λ p. Finishes (g.K.Sink.pieces c.args.out.now) (g.K.Sink.pieces c.print_pieces.new.out) (IsOutput c.args.bounds.budget c.args.bounds.answers p c.args.atoms.now c.args.text.now (judged c.args.whole c.args.text.now)) c.print_pieces.result)
    c.in-Ok-of.ensures
    (subst (λ ps. Finishes (g.K.Sink.pieces c.args.out.now) (g.K.Sink.pieces c.print_pieces.new.out) (IsOutput c.args.bounds.budget c.args.bounds.answers c.in-Ok-of.program c.args.atoms.now c.args.text.now ps) c.print_pieces.result)
    (c.deref.ensures.value ∙ c.in-Ok.ensures) c.print_pieces.ensures.lines)

pub returns-clause-counted : goal.returns-clause-counted
returns-clause-counted g c =
    subst (λ p. IfOk c.print_pieces.result (λ _. Puts (g.K.Sink.pieces c.args.out.now) (g.K.Sink.pieces c.print_pieces.new.out) (IsCountedOutput c.args.bounds c.args.crew.now.workers p c.args.atoms.now c.args.text.now (judged c.args.whole c.args.text.now))))
    c.in-Ok-of.ensures
    (subst (λ ps. IfOk c.print_pieces.result (λ _. Puts (g.K.Sink.pieces c.args.out.now) (g.K.Sink.pieces c.print_pieces.new.out) (IsCountedOutput c.args.bounds c.args.crew.now.workers c.in-Ok-of.program c.args.atoms.now c.args.text.now ps)))
    (c.deref.ensures.value ∙ c.in-Ok.ensures) c.print_pieces.ensures.counted)
