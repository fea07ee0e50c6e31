use Rattle.ap_codegen.specs.Relocated.{known_by}
use Rattle.ap_codegen.proofs.WalkedWays.{kept_forgets, way_joined}
use Rattle.ap_codegen.proofs.relocating.Walk.go_on.Goals as goal

pub returns-in-Turns-eq1-default : goal.returns-in-Turns-eq1-default
returns-in-Turns-eq1-default c t d e cs a = (
  kept_forgets 0 cs (known_by c.args.self.now.numbers) (known_by c.agree.new.self) c.agree.ensures.own a.0,
  way_joined c.args.self.now.way c.in-Turns-eq1-default.field-0 c.in-Turns-eq1-default.there d cs (known_by c.agree.new.self) c.in-Turns-eq1-default.ensures.value c.in-Turns-eq1-default.field-0-test e c.agree.ensures.other a.0,
)
