use Rattle.std.proofs.Common.{ap, ℕ}
use Rattle.ap_board.specs.declared.view.Kind.TheVariants.{Finish}
use Rattle.ap_board_tests.specs.declared.spot.Spot.TheVariants.{Nothing}
use Rattle.ap_board_tests.proofs.Remembered.{written}
use Rattle.ap_board_tests.proofs.player.Player.finish.Goals as goal

pub invariant_of-self : goal.invariant_of-self
invariant_of-self c = let s = c.self.inside in let v = s.seat.1 in let spots = s.spots.items in let p : ℕ = c.args.ticket.pad in let q : ℕ = c.args.ticket.round in let k = c.self.invariant in
    written spots v c.finish.new.seat.1 p q (Finish _) Nothing _ _ k c.finish.ensures.told (ap (λ z. z.slots) c.finish.ensures.table) tt
