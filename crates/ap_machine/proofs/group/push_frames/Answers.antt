use Rattle.std.proofs.Common.{List, ◌∷◌, ap, sym, ◌∙◌, arith}
use Rattle.ap_environments.specs.Kept.{Kept}
use Rattle.ap_steps.specs.Standing.{Return}
use Rattle.ap_group.specs.Groups.{Pushed}
use Rattle.ap_machine.specs.Forking.{frame_of}
use Rattle.ap_machine.proofs.Parted.{frame-more}
use Rattle.ap_machine.proofs.group.push_frames.Goals as goal

pub frames-preserved : goal.frames-preserved
frames-preserved c =
    let old : Kept = c.args.environments.now in
    let p : Pushed = record { predicate = c.in-Some.predicate; arguments = c.in-Some.arguments.now } in
    record {
      fewer = omega (arith, c.frames.invariant.fewer);
      environments =
          c.in-Ok.ensures.ok
          ∙ ap (λ (k : Kept). record k { returns = frame_of p ∷ k.returns }) c.frames.invariant.environments
          ∙ ap (λ (ws : List Return). record old { returns = ws }) (sym (frame-more c.args.goals.now c.frames.left p old.returns c.frames-test.true c.in-Some.ensures.some));
    }
