use Rattle.std.proofs.Common.{rules, refl, ap, ◌∙◌}
use Rattle.atomic_table.specs.Seated.{TableId}
use Rattle.ap_board.proofs.Openings.{cuts, joins}
use Rattle.ap_board.proofs.Sittings.{fitted, joined_seat}
use Rattle.ap_board.proofs.board.Board.take_in.Goals as goal

pub split_seat-cut-requires : goal.split_seat-cut-requires
split_seat-cut-requires g c = (search rules, search rules, cuts g.P.Fits.fits g.P.Fits.cause _ _ _)

pub join_seat-requires : goal.join_seat-requires
join_seat-requires g c = let cut = c.split_seat-cut.ensures in (
  search rules,
  search rules,
  ap (λ m. m.1) cut.4,
  search rules,
  joins g.P.Fits.fits g.P.Fits.cause _ _ _ _ _ c.into.inside.hand.live (ap (λ m. m.0.ended) cut.4 ∙ c.from.inside.hand.live),
)

pub invariant_of-into : goal.invariant_of-into
invariant_of-into g c = let s = c.into.inside in let now = c.join_seat.ensures in
    fitted _ _ _ _ _ _ _ _ (ap (λ m. m.0) now.2) refl (ap (λ (z : TableId). z.slots) now.0)
    (joined_seat s.hand.place.me.0 c.split_seat-cut.result.me.0 s.hand.order.items s.rounds.items s.first s.hand.place.table_id.slots c.into.invariant)
