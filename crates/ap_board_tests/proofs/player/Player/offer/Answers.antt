use Rattle.std.proofs.Common.{ap, ℕ}
use Rattle.ap_board.specs.declared.view.Kind.TheVariants.{Offer}
use Rattle.ap_board.proofs.Keeps.{role_logged}
use Rattle.ap_board_tests.specs.declared.spot.Spot.TheVariants.{Sent}
use Rattle.ap_board_tests.proofs.Remembered.{written}
use Rattle.ap_board_tests.proofs.player.Player.offer.Goals as goal

pub invariant_of-self : goal.invariant_of-self
invariant_of-self c = let s = c.self.inside in let v = s.seat.1 in let p : ℕ = c.in-Ok.ticket.pad in let q : ℕ = c.in-Ok.ticket.round in let t = c.in-Ok.ensures.told in
    written s.spots.items v c.offer.new.seat.1 p q (Offer _) (Sent q) _ _ c.self.invariant t.2 (ap (λ z. z.slots) c.offer.ensures.table) (_, role_logged v p q (Offer _))
