use Rattle.ap_codegen.specs.Emitted.{steps_of}
use Rattle.ap_codegen.proofs.Turns.{make-turn, make-smaller}
use Rattle.ap_codegen.proofs.permanent.make.Goals as goal

pub loop-making-smaller : goal.loop-making-smaller
loop-making-smaller c =
    make-smaller c.in-Some.making c.loop-making.left.items c.pop.new.self.items c.make_one.new.left.items c.loop-making.seen.items c.make_one.new.seen.items (steps_of c.loop-making.code.items)
    (steps_of c.make_one.new.code.items) c.in-Some.ensures.items c.in_ok-make_one.ensures

pub loop-making-preserved : goal.loop-making-preserved
loop-making-preserved c =
    make-turn c.in-Some.making c.loop-making.left.items c.pop.new.self.items c.make_one.new.left.items c.loop-making.seen.items c.make_one.new.seen.items (steps_of c.loop-making.code.items)
    (steps_of c.make_one.new.code.items) c.in-Some.ensures.items c.in_ok-make_one.ensures _ _ c.loop-making.invariant.0 c.loop-making.invariant.1
