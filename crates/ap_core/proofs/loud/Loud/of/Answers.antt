use Rattle.std.proofs.Common.{false, subst, sym}
use Rattle.std.specs.List.{All}
use Rattle.ap_core.specs.Passes.{IsClosed, Passes}
use Rattle.ap_core.proofs.Passes.{tells_just}
use Rattle.ap_core.proofs.loud.Loud.of.Goals as goal

pub returns : goal.returns
returns c =
    let p = c.args.program.now in
    let old = c.loop-loud.loud in
    let new = c.pass.new.self in
    let end : Passes p p false old new = subst (λ b. Passes p p b old new) c.if-branch.false c.in_ok-pass.ensures.fewer in
    tells_just p new (c.in_ok-pass.ensures.loud c.loop-loud.invariant) (subst (λ qs. All (IsClosed qs) p) (sym end.0) end.1)
