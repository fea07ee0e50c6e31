use Rattle.std.proofs.Common.{[], ◌∷◌, ◌++◌, ap, ◌∙◌}
use Rattle.ap_instr.specs.Step.{put_structure}
use Rattle.ap_codegen.specs.Emitted.{steps_of}
use Rattle.ap_codegen.proofs.Turns.{build-part, fill-part}
use Rattle.ap_codegen.proofs.permanent.make_one.Goals as goal

pub returns-in_ok-leave_all_inner-in-Build : goal.returns-in_ok-leave_all_inner-in-Build
returns-in_ok-leave_all_inner-in-Build c =
    build-part c.args.making c.in-Build.whole c.args.left.now.items c.push.new.self.items c.leave_all_inner.new.left.items c.args.seen.now.items (steps_of c.args.code.now.items) c.in-Build.is
    c.in_ok-push-in-Build.ensures.items c.in_ok-leave_all_inner-in-Build.ensures

pub returns-in_ok-fills-in-Fill : goal.returns-in_ok-fills-in-Fill
returns-in_ok-fills-in-Fill c =
    fill-part c.args.making c.in-Fill.whole c.args.left.now.items c.args.seen.now.items c.fills.new.seen.items (steps_of c.args.code.now.items) (steps_of c.add.new.code.items) (steps_of c.fills.new.code.items)
    c.in-Fill.is (c.in_ok-add-in-Fill.ensures ∙ ap (λ n. steps_of c.args.code.now.items ++ put_structure c.in-Fill.whole.name.now n c.in-Fill.whole.at ∷ []) c.in_ok-count-in-Fill.ensures)
    c.in_ok-fills-in-Fill.ensures.code c.in_ok-fills-in-Fill.ensures.seen
