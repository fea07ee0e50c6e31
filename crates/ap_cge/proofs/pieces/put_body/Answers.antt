use Rattle.std.proofs.Common.{arith}
use Rattle.std.proofs.lemmas.Grind.{common_steps}
use Rattle.ap_cge.proofs.Writing.{body_from}
use Rattle.ap_cge.proofs.pieces.put_body.Goals as goal

pub returns-in_ok-put_more_parts-in-len1-up : goal.returns-in_ok-put_more_parts-in-len1-up
returns-in_ok-put_more_parts-in-len1-up c =
    let e = body_from c.args.atoms.now c.args.parts.now c.first-item.result (omega arith) c.first-item.is in
    grind (arith, common_steps, e)
