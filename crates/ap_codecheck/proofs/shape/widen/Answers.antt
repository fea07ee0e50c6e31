use Rattle.std.proofs.Common.{◌+◌, ◌≤◌, length, vec_len, arith}
use Rattle.ap_codecheck.proofs.Marks.{marked-widened}
use Rattle.ap_codecheck.proofs.shape.widen.Goals as goal

pub returns-in_ok-resize-clause-same : goal.returns-in_ok-resize-clause-same
returns-in_ok-resize-clause-same c =
    let v = c.args.marks.now in
    let short : length v.items ≤ c.args.at + 1 = omega (arith, v.ok.0) in
    marked-widened v.items c.resize.new.self.items (c.args.at + 1) (vec_len v) short c.in_ok-resize.ensures.items
