use Rattle.std.proofs.Common.{rules}
use Rattle.ap_board.proofs.Turns.{opens_ok}
use Rattle.ap_board.proofs.steps.open.Goals as goal

pub load-requires : goal.load-requires
load-requires g c = (search rules, search rules, opens_ok g.P.Fits.fits g.P.Fits.cause _ _ _ _ _ c.requires.live c.requires.pad.0 c.requires.new c.requires.own)
