use Rattle.std.proofs.Common.{◌∷◌, sym, subst}
use Rattle.ap_codegen.specs.Relocated.{change_of, WayKept}
use Rattle.ap_codegen.proofs.WalkedWays.{kept_end}
use Rattle.ap_codegen.proofs.relocating.Walk.end.Goals as goal

pub returns-in-Outside : goal.returns-in-Outside
returns-in-Outside c t cs = (kept_end (change_of c.args.change) cs _ c.requires (c.accepts.ensures t), subst (λ w. WayKept w (change_of c.args.change ∷ cs)) (sym c.in-Outside.is) tt)
