use Rattle.std.proofs.Common.{◌≡◌, length, ◌∙◌, arith}
use Rattle.std.proofs.Math.Seq.{take-length}
use Rattle.ap_direct.proofs.table.Directs.grow.Goals as goal

pub returns-clause-same : goal.returns-clause-same
returns-clause-same c =
    let gs = c.args.self.now.goals.items in
    let from : c.len-from.result ≡ length gs = omega (arith, c.len-from.ensures, c.args.self.now.goals.ok.0) in
    c.note_stops.ensures.before (length gs) (omega (arith, from)) ∙ c.in_ok-find_goals.ensures.before (length gs) (omega arith) ∙ take-length gs
