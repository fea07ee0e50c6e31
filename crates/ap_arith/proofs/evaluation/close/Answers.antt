use Rattle.std.proofs.Common.{ap, sym, ◌∙◌, arith, Ok, w64}
use Rattle.std.proofs.lemmas.Int.{to_z-of_z}
use Rattle.ap_arith.specs.declared.evaluation.Frame.{Frame}
use Rattle.ap_arith.specs.declared.evaluation.Frame.TheVariants.{Right}
use Rattle.ap_arith.specs.Valued.{valued, framed, weight_frame}
use Rattle.ap_arith.proofs.Values.{valued-push, weight_frames-push}
use Rattle.ap_arith.proofs.evaluation.close.Goals as goal

pub returns-in-Negate-clause-inside : goal.returns-in-Negate-clause-inside
returns-in-Negate-clause-inside c n h = c.closed.ensures.inside n

pub returns-in-Right-clause-inside : goal.returns-in-Right-clause-inside
returns-in-Right-clause-inside c n h = c.closed-in-Right.ensures.inside n

pub returns-in_ok-push-in-Left-clause-value : goal.returns-in_ok-push-in-Left-clause-value
returns-in_ok-push-in-Left-clause-value c ts =
    let f : Frame = Right c.in-Left.operation c.args.value in
    simp (c.in_ok-push-in-Left.ensures.items, to_z-of_z w64 c.args.value c.ranges.value) (valued-push ts c.args.frames.now.items f _ ∙ ap (λ g. valued ts c.args.frames.now.items (framed ts g (Ok c.args.value))) (sym c.in-Left.is))

pub returns-in_ok-push-in-Left-clause-less : goal.returns-in_ok-push-in-Left-clause-less
returns-in_ok-push-in-Left-clause-less c ts =
    let f : Frame = Right c.in-Left.operation c.args.value in
    let w = ap (weight_frame ts) c.in-Left.is in
    simp (c.in_ok-push-in-Left.ensures.items, to_z-of_z w64 c.args.value c.ranges.value, weight_frames-push ts c.args.frames.now.items f) (omega arith)
