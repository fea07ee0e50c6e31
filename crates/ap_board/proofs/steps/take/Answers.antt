use Rattle.std.proofs.Common.{rules, refl, ap, arith, ◌≡◌, ℕ, ◌+◌, ◌*◌}
use Rattle.ap_board.proofs.Turns.{takes_ok, held}
use Rattle.ap_board.proofs.steps.take.Goals as goal

pub compare_exchange-found-requires : goal.compare_exchange-found-requires
compare_exchange-found-requires g c = let q : ℕ = c.args.round in let more : q * 8 + 1 + 1 ≡ q * 8 + 2 = omega arith in (search rules, search rules, takes_ok g.P.Fits.fits g.P.Fits.cause _ _ _ _ c.args.round _ _ _ c.requires.live c.requires.pad.0 c.requires.other refl more)

pub exchange-requires : goal.exchange-requires
exchange-requires g c = let got = c.compare_exchange-found.ensures.2.1.2 c.if-found-offered.false in (search rules, (_, held _ (ap (λ m. m.1) got.2)))
