use Rattle.std.proofs.Common.{rules, refl, sym, ap, ◌∙◌, ◌∷◌, ◌≡◌}
use Rattle.atomic_table.specs.Table.{rest}
use Rattle.ap_board.specs.History.{keeps}
use Rattle.ap_board.specs.Rule.{role}
use Rattle.ap_board.proofs.Turns.{offers_ok, held}
use Rattle.ap_board.proofs.steps.offer.Goals as goal

pub store-requires : goal.store-requires
store-requires g c = let now = c.exchange-was.ensures.3 in (
  search rules,
  search rules,
  offers_ok g.P.Fits.fits g.P.Fits.cause _ _ _ _ c.args.round c.args.parcel _ _ (ap (λ m. m.0.ended) now ∙ c.requires.live) c.requires.pad.0 (ap (λ m. role m.0 c.args.pad) now ∙ c.requires.role) (held _ (ap (λ m. m.1) now)) refl,
)
