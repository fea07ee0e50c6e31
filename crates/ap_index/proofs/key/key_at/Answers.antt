use Rattle.std.proofs.Common.{◌≡◌, Some, slice_get, sym, ◌∙◌}
use Rattle.ap_index.proofs.Keyed.{key-further, key-here}
use Rattle.ap_index.proofs.key.key_at.Goals as goal

pub returns-then-not-leaves_first : goal.returns-then-not-leaves_first
returns-then-not-leaves_first c =
    let stands : slice_get c.args.code.now.instructions c.loop-place.place ≡ Some c.in-Some.instr = sym c.in-Some.ensures in
    c.asked_key.ensures ∙ sym (key-here c.args.code.now c.loop-place.place c.in-Some.instr stands (sym c.leaves_first.ensures ∙ c.if-not-leaves_first.true)) ∙ sym c.loop-place.invariant

pub loop-place-preserved : goal.loop-place-preserved
loop-place-preserved c =
    let stands : slice_get c.args.code.now.instructions c.loop-place.place ≡ Some c.in-Some.instr = sym c.in-Some.ensures in
    c.loop-place.invariant ∙ key-further c.args.code.now c.loop-place.place c.in-Some.instr stands (sym c.leaves_first.ensures ∙ c.if-not-leaves_first.false)
