use Rattle.ap_codegen.specs.Relocated.{known_by}
use Rattle.ap_codegen.proofs.WalkedWays.{way_met}
use Rattle.ap_codegen.proofs.relocating.Walk.meet.Goals as goal

pub returns-in-Sides-clause-way : goal.returns-in-Sides-clause-way
returns-in-Sides-clause-way c t d cs a =
    way_met c.args.self.now.way c.in-Sides.over c.args.n c.in-Sides.there d cs (known_by c.agree.new.self) c.in-Sides.ensures.value (c.is_next_to.ensures t) c.agree.ensures.other a
