use Rattle.std.proofs.Common.{◌≡◌, ◌∙◌, refl, sym, true≢false, length, slice_get, Some, arith}
use Rattle.std.proofs.lemmas.Option.{slice_get_read}
use Rattle.ap_board.specs.declared.ticket.Ticket.{Ticket}
use Rattle.ap_desk.specs.Looks.{asked_word}
use Rattle.ap_desk.proofs.Looking.{sees, seen_asked}
use Rattle.ap_desk.proofs.looks.find_asked.Goals as goal

pub returns-then-stop_asked-clause-looked : goal.returns-then-stop_asked-clause-looked
returns-then-stop_asked-clause-looked g c = let t = c.stop_asked.ensures.told in let ticket : Ticket = c.index-tickets-i.result in
    let at : slice_get c.args.tickets.now c.loop-i.i ≡ Some ticket = slice_get_read c.args.tickets.now (length c.args.tickets.now) c.loop-i.i ticket refl (omega arith) c.index-tickets-i.is in
    let e : t.0 ≡ asked_word ticket = t.3.0 c.if-stop_asked.true in seen_asked _ _ _ _ _ t.0 ticket c.loop-i.invariant.1 at t.2 e

pub loop-i-preserved : goal.loop-i-preserved
loop-i-preserved g c = let t = c.stop_asked.ensures.told in let ticket : Ticket = c.index-tickets-i.result in
    let at : slice_get c.args.tickets.now c.loop-i.i ≡ Some ticket = slice_get_read c.args.tickets.now (length c.args.tickets.now) c.loop-i.i ticket refl (omega arith) c.index-tickets-i.is in
    (c.stop_asked.ensures.table ∙ c.loop-i.invariant.0, sees _ _ _ _ _ t.0 ticket c.loop-i.invariant.1 at t.2 (λ e. true≢false (sym (t.3.1 e) ∙ c.if-stop_asked.false)))
