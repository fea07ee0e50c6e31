use Rattle.ap_board.proofs.Writing.{is_written}
use Rattle.ap_board.proofs.laws.history_law.Goals as goal

pub returns : goal.returns
returns g c = λ owner history mode l. is_written g.P.Fits.fits g.P.Fits.cause owner history mode l
