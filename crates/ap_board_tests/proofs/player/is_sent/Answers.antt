use Rattle.std.proofs.lemmas.Bool.{eqb-true}
use Rattle.std.proofs.Common.{subst, ℕ, ◌≡◌}
use Rattle.ap_board.specs.History.{on, out}
use Rattle.ap_board.specs.Rule.{role}
use Rattle.ap_board_tests.specs.declared.spot.Spot.{Spot}
use Rattle.ap_board_tests.specs.Spots.{At}
use Rattle.ap_board_tests.specs.declared.parcel.Parcel.{Parcel}
use Rattle.ap_board_tests.proofs.player.is_sent.Goals as goal

pub returns-in-Gone : goal.returns-in-Gone
returns-in-Gone c = λ yes v k. subst (λ (r : ℕ). (x : Parcel) × (role v c.args.ticket.pad ≡ out r x)) (eqb-true _ _ yes) (subst (λ (s : Spot). At s (on c.args.ticket.pad v.calls)) c.in-Gone.is (c.recall.ensures v k)).1
