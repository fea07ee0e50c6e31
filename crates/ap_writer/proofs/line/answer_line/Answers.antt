use Rattle.std.proofs.Common.{◌≡◌, ◌++◌, length, ap, sym, ◌∙◌, arith}
use Rattle.std.proofs.lemmas.List.{append-nil}
use Rattle.ap_writer.proofs.Turns.{lead, turn-hidden, turn-shown}
use Rattle.ap_writer.proofs.line.answer_line.Goals as goal
use Rattle.ap_writer.proofs.line.answer_line.Goals.{then-not-is_first+in_ok-extend_from_slice, else-not-is_first}

pub loop-i-preserved-then-is_hidden : goal.loop-i-preserved-then-is_hidden
loop-i-preserved-then-is_hidden c =
    turn-hidden c.args.atoms.now c.names-name-items.result.now c.args.tuple.now c.loop-i.i c.loop-i.is_first _ _ c.name-item.result c.loop-i.invariant c.loop-i-test.true c.name-item.is (sym c.if-is_hidden.ensures)

pub loop-i-preserved : goal.loop-i-preserved
loop-i-preserved c =
    let out = c.loop-i.out.items in
    let parted : c.if-not-is_first.out.items ≡ out ++ lead c.loop-i.is_first =
    elim c.if-not-is_first.branch [
      | then-not-is_first+in_ok-extend_from_slice w ↦ ap (λ o. o.items) w.out-is ∙ w.in_ok-extend_from_slice.ensures.items ∙ ap (λ b. out ++ lead b) (sym w.if-not-is_first.true)
      | else-not-is_first w ↦ ap (λ o. o.items) w.out-is ∙ sym (append-nil out) ∙ ap (λ b. out ++ lead b) (sym w.if-not-is_first.false)
    ] in
    turn-shown c.args.atoms.now c.names-name-items.result.now c.args.tuple.now c.loop-i.i c.loop-i.is_first _ _ out _ _ c.name-item.result c.index-tuple-i.result c.loop-i.invariant
    c.loop-i-test.true c.name-item.is (sym c.if-is_hidden.ensures) (omega (arith, ap length c.names-name-items.ensures.names)) c.index-tuple-i.is
    parted c.in_ok-write_equation.ensures.variables c.in_ok-write_equation.ensures.text
