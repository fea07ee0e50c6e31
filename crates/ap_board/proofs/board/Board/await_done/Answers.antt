use Rattle.std.proofs.Common.{rules, ◌≡◌, ◌∙◌, ℕ, ◌+◌, ◌*◌, ◌++◌, ◌∷◌, [], true, IsTrue}
use Rattle.ap_board.proofs.Sittings.{looked_more, looked_last}
use Rattle.ap_board.proofs.board.Board.await_done.Goals as goal

pub returns-then-done-clause-done : goal.returns-then-done-clause-done
returns-then-done-clause-done g c = let t = c.if-done.ensures.told in let yes : IsTrue true = search rules in
    looked_last c.args.ticket.pad t.0 c.loop.seat.1 c.done.new.seat.1 (c.args.ticket.round * 8 + 4) t.2 (t.3.0 yes)

pub returns-then-done-clause-looks : goal.returns-then-done-clause-looks
returns-then-done-clause-looks g c = let t = c.done.ensures.told in let k = c.loop.invariant.1 in (k.0 ++ t.0 ∷ [], looked_more c.args.ticket.pad t.0 k.0 c.args.seat.now.1 c.loop.seat.1 c.done.new.seat.1 k.1 t.2)

pub loop-preserved : goal.loop-preserved
loop-preserved g c = let t = c.done.ensures.told in let k = c.loop.invariant.1 in
    (c.done.ensures.table ∙ c.loop.invariant.0, (k.0 ++ t.0 ∷ [], looked_more c.args.ticket.pad t.0 k.0 c.args.seat.now.1 c.loop.seat.1 c.done.new.seat.1 k.1 t.2))
