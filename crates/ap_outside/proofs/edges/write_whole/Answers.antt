use Rattle.std.proofs.Common.{◌≡◌, ◌-◌, length, take, drop, arith, rules}
use Rattle.std.proofs.lemmas.Grind.{common_steps}
use Rattle.ap_outside.proofs.Readers.{appends_more}
use Rattle.ap_outside.proofs.edges.write_whole.Goals as goal

pub loop-written-preserved : goal.loop-written-preserved
loop-written-preserved g c =
    let n = c.loop-written.written in
    let piece = c.args.piece.now in
    let rest : take (length piece - n) (drop n piece) ≡ drop n piece = grind (arith, common_steps) in
    record {
      written = appends_more _ _ _ piece n c.in_ok-count.count c.loop-written.invariant.written (rw rest at c.in_ok-count.ensures.bytes);
      within = search rules;
    }
