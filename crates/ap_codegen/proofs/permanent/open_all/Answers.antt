use Rattle.ap_codegen.specs.Emitted.{steps_of}
use Rattle.ap_codegen.proofs.Turns.{open-turn, open-smaller}
use Rattle.ap_codegen.proofs.permanent.open_all.Goals as goal

pub loop-whole-smaller : goal.loop-whole-smaller
loop-whole-smaller c =
    open-smaller c.in-Some.whole c.loop-whole.left.items c.pop.new.self.items c.open_first.new.left.items c.loop-whole.seen.items c.open_first.new.seen.items (steps_of c.loop-whole.code.items)
    (steps_of c.open_first.new.code.items) c.in-Some.ensures.items c.in_ok-open_first.ensures

pub loop-whole-preserved : goal.loop-whole-preserved
loop-whole-preserved c =
    open-turn c.in-Some.whole c.loop-whole.left.items c.pop.new.self.items c.open_first.new.left.items c.loop-whole.seen.items c.open_first.new.seen.items (steps_of c.loop-whole.code.items)
    (steps_of c.open_first.new.code.items) c.in-Some.ensures.items c.in_ok-open_first.ensures _ _ c.loop-whole.invariant.0 c.loop-whole.invariant.1
