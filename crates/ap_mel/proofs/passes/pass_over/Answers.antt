use Rattle.std.proofs.Common.{◌≡◌, ◌∙◌, ◌<◌, length, sym, arith, ap}
use Rattle.ap_patterns.specs.Given.{patterns}
use Rattle.ap_mel.specs.Mended.{mended_program, is_program_settled}
use Rattle.ap_mel.proofs.Turns.{clauses-turn, all_settled-turn}
use Rattle.ap_mel.proofs.passes.pass_over.Goals as goal

pub loop-i-preserved : goal.loop-i-preserved
loop-i-preserved c =
    let t = patterns c.args.table.now in
    let P = c.as_slice-written.result.now in
    let A = c.as_slice-clauses.result.now in
    let e : length P ≡ length A = ap length c.as_slice-written.ensures.clauses ∙ c.requires ∙ sym (ap length (c.as_slice-clauses.ensures.clauses ∙ c.program.ensures)) in
    let m : c.loop-i.i < length A = c.loop-i-test.true in
    let l : c.loop-i.i < length P = omega (arith, e, m) in
    record {
      whole = clauses-turn c.args.kind t P A c.loop-i.i c.index-written-i.result c.index-clauses-i.result c.loop-i.mended.items c.mend_clause.new.out.items (mended_program c.args.kind t P A) l m
          c.index-written-i.is c.index-clauses-i.is c.in_ok-stays.ensures.out c.loop-i.invariant.whole;
      stays = all_settled-turn c.args.kind t P A c.loop-i.i c.index-written-i.result c.index-clauses-i.result c.loop-i.settled c.in_ok-stays.stays (is_program_settled c.args.kind t P A) l m
          c.index-written-i.is c.index-clauses-i.is c.in_ok-stays.ensures.settled c.loop-i.invariant.stays;
    }
