use Rattle.std.proofs.Common.{rules}
use Rattle.ap_board.proofs.Openings.{splits}
use Rattle.ap_board.proofs.open.next_place.Goals as goal

pub split_seat-place-requires : goal.split_seat-place-requires
split_seat-place-requires g c = (search rules, search rules, splits g.P.Fits.fits g.P.Fits.cause _ _ _ c.requires.leads.1 c.requires.leads.0)
