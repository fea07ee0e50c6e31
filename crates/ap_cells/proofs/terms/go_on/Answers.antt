use Rattle.std.proofs.Common.{◌+◌, ◌-◌, ◌<◌, ap, ◌∙◌, arith}
use Rattle.ap_cells.specs.declared.terms.Frame.{Frame}
use Rattle.ap_cells.specs.Trees.{tree_at}
use Rattle.ap_cells.specs.Walks.{weight_all}
use Rattle.ap_cells.specs.Built.{closed}
use Rattle.ap_cells.proofs.Walks.{span-first}
use Rattle.ap_cells.proofs.Built.{closed-push, weight_frames-push, framed-whole, framed-next}
use Rattle.ap_cells.proofs.terms.go_on.Goals as goal

pub returns-then-left-eq0-clause-built : goal.returns-then-left-eq0-clause-built
returns-then-left-eq0-clause-built c ts = ap (closed ts c.args.frames.now.items) (framed-whole ts c.args.frame c.if-left-eq0.true)

pub returns-clause-built : goal.returns-clause-built
returns-clause-built c ts =
    let f : Frame = record { name = c.args.frame.name; args = c.args.frame.args; next = c.args.frame.next + 1; left = c.args.frame.left - 1 } in
    rw c.in_ok-push.ensures.items (closed-push ts c.args.frames.now.items f (tree_at ts c.args.frame.next) ∙ ap (closed ts c.args.frames.now.items) (framed-next ts c.args.frame (omega arith)))

pub returns-clause-less : goal.returns-clause-less
returns-clause-less c ts =
    let f : Frame = record { name = c.args.frame.name; args = c.args.frame.args; next = c.args.frame.next + 1; left = c.args.frame.left - 1 } in
    let h : 0 < c.args.frame.left = omega arith in
    let w = ap weight_all (span-first ts c.args.frame.next c.args.frame.left h) in
    rw (c.in_ok-push.ensures.items, weight_frames-push ts c.args.frames.now.items f) (omega arith)
