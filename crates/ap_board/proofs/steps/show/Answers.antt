use Rattle.std.proofs.Common.{rules}
use Rattle.ap_board.proofs.Turns.{shows_ok}
use Rattle.ap_board.proofs.steps.show.Goals as goal

pub load-requires : goal.load-requires
load-requires g c = (search rules, search rules, shows_ok g.P.Fits.fits g.P.Fits.cause _ _ _ _ _ c.requires.live c.requires.pad.0)
