use Rattle.std.proofs.Common.{rules, refl, sym, ap, ◌∙◌, ◌∷◌, ◌≡◌}
use Rattle.atomic_table.specs.Table.{rest}
use Rattle.ap_board.specs.Rule.{role}
use Rattle.ap_board.proofs.Turns.{finishes_ok, held}
use Rattle.ap_board.proofs.steps.finish.Goals as goal

pub swap-requires : goal.swap-requires
swap-requires g c = let now = c.exchange-was.ensures.3 in let r = c.requires.role in (
  search rules,
  search rules,
  finishes_ok g.P.Fits.fits g.P.Fits.cause _ _ _ _ c.args.round r.0 r.1 c.args.outcome _ _ (ap (λ m. m.0.ended) now ∙ c.requires.live) c.requires.pad.0 (ap (λ m. role m.0 c.args.pad) now ∙ r.2) r.3 r.4 (held _ (ap (λ m. m.1) now)) refl,
)
