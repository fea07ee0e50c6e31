use Rattle.std.proofs.Common.{subst}
use Rattle.ap_codegen.specs.Relocated.{change_of, known_by, AreKept}
use Rattle.ap_codegen.proofs.WalkedWays.{kept_next, next_never_turns}
use Rattle.ap_codegen.proofs.relocating.Walk.step.Goals as goal

pub returns : goal.returns
returns c t cs a =
    let on = c.go_on.ensures t (change_of c.args.change.now) (next_never_turns (change_of c.args.change.now) c.requires) cs a in
    (kept_next (change_of c.args.change.now) cs (known_by c.args.self.now.numbers) c.requires (c.accepts.ensures c.if-not-accepts.false) (subst (λ k. AreKept 0 k cs) c.in_ok-pass.ensures on.0), on.1)
