use Rattle.std.proofs.Common.{◌<◌, length, ◌∙◌, ap, arith}
use Rattle.ap_instr.specs.Runs.{set}
use Rattle.ap_codecheck.proofs.Marks.{marked-set}
use Rattle.ap_codecheck.proofs.shape.put.Goals as goal

pub returns : goal.returns
returns c =
    let within : c.args.at < length c.widen.new.marks.items = omega (arith, c.widen.new.marks.ok.0, c.in_ok-widen.ensures.room) in
    marked-set c.widen.new.marks.items c.args.at c.args.value within ∙ ap (λ f. set f c.args.at c.args.value) c.in_ok-widen.ensures.same
