use Rattle.std.proofs.Common.{rules, refl, ap}
use Rattle.ap_board.proofs.Turns.{reclaims_ok, held}
use Rattle.ap_board.proofs.steps.reclaim.Goals as goal

pub compare_exchange-found-requires : goal.compare_exchange-found-requires
compare_exchange-found-requires g c = let r = c.requires.role in (search rules, search rules, reclaims_ok g.P.Fits.fits g.P.Fits.cause _ _ _ _ c.args.round r.0 _ _ _ c.requires.live c.requires.pad.0 r.1 refl refl)

pub exchange-requires : goal.exchange-requires
exchange-requires g c = let got = c.compare_exchange-found.ensures.2.1.4 c.if-found-offered.false in (search rules, (_, held _ (ap (λ m. m.1) got.2)))
