use Rattle.std.proofs.Common.{arith}
use Rattle.ap_term.specs.TermView.{tree_of}
use Rattle.ap_codegen.proofs.WholeLeads.{parts_turn, parts_last}
use Rattle.ap_codegen.proofs.bodies.parts.Goals as goal

pub returns-in-Some : goal.returns-in-Some
returns-in-Some c =
    parts_last c.as_slice-parts.result.now c.loop-part.part-index c.loop-part.left c.part-item.result (tree_of c.in-Some.t.now) c.loop-part.code.items c.new-last.result.items c.ask_last.new.code.items c.append.new.self.items
    c.loop-part.seen.items _ (omega arith) c.part-item.is c.loop-part.invariant.0 c.in-Some.ensures.0 c.in-Some.ensures.1 c.new-last.ensures.items c.in_ok-ask_last.ensures c.in_ok-append.ensures.items c.loop-part.invariant.1

pub loop-part-preserved : goal.loop-part-preserved
loop-part-preserved c =
    parts_turn c.as_slice-parts.result.now c.loop-part.part-index c.loop-part.left c.part-item.result c.loop-part.code.items c.in_ok-more.more.items c.append-in-loop-part.new.self.items c.loop-part.seen.items c.part_steps.new.seen.items _
    (omega arith) c.part-item.is c.loop-part.invariant.0 c.in_default.ensures c.in_ok-more.ensures.written c.in_ok-more.ensures.seen c.in_ok-append-2.ensures.items c.loop-part.invariant.1
