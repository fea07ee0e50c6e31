use Rattle.std.proofs.Common.{arith}
use Rattle.ap_term.specs.GoalView.{part_of}
use Rattle.ap_reach.specs.Reached.{IsPartNamed}
use Rattle.ap_reach.proofs.Naming.{part_named_more, turn, done}
use Rattle.ap_reach.proofs.calls.add_parts.Goals as goal

pub loop-part-preserved : goal.loop-part-preserved
loop-part-preserved c =
    let p = c.args.program.now in
    turn (λ ks t. IsPartNamed p ks (part_of t)) (λ ks ls t. part_named_more p ks ls (part_of t)) c.args.parts.now c.loop-part.part-index c.part-item.result c.args.calls.now c.loop-part.calls c.add_part.new.calls (omega arith) c.part-item.is
    c.loop-part.invariant.0 c.in_ok-add_part.ensures.extends c.in_ok-add_part.ensures.named c.loop-part.invariant.1

pub returns-clause-named : goal.returns-clause-named
returns-clause-named c =
    let p = c.args.program.now in
    done (λ ks t. IsPartNamed p ks (part_of t)) (λ ks ls t. part_named_more p ks ls (part_of t)) c.args.parts.now c.loop-part.part-index c.loop-part.calls (omega arith) c.loop-part.invariant.1
