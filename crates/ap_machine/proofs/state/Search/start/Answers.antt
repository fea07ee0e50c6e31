use Rattle.std.proofs.Common.{◌<◌, slice_get, ap, sym, ◌∙◌, subst, arith}
use Rattle.ap_instr.specs.Code.{Compiled}
use Rattle.ap_needs.specs.Needs.{AreWidthsOf}
use Rattle.ap_machine.specs.View.{paused_of}
use Rattle.ap_machine.specs.Started.{Started}
use Rattle.ap_machine.proofs.Begun.{Sane-new, started-laid}
use Rattle.ap_machine.proofs.state.Search.start.Goals as goal

pub lay_out-requires-clause-room : goal.lay_out-requires-clause-room
lay_out-requires-clause-room c =
    let l : c.requires.0.arity < c.widths.result.x = c.widths.ensures.arities c.args.predicate c.requires.0 c.requires.1 in
    let a = c.requires.2 in
    omega arith

pub invariant_of-found : goal.invariant_of-found
invariant_of-found c = Sane-new c.lay_out.new.cells c.new.result c.lay_out.new.x.items c.lay_out.new.y.items c.lay_out.new.roots.items c.new.ensures c.in_ok-lay_out.ensures.inside

pub returns : goal.returns
returns c =
    let code = c.code.result.now in
    let v = c.lay_out.new.cells in
    let x = c.lay_out.new.x.items in
    let y = c.lay_out.new.y.items in
    let roots = c.lay_out.new.roots.items in
    let k = c.new.result in
    let needs : AreWidthsOf code c.widths.result = subst (λ (d : Compiled). AreWidthsOf d c.widths.result) (sym c.code.ensures.same) c.widths.ensures in
    subst (λ (d : Compiled). Started d c.args.tuple.now c.args.predicate c.args.rest (paused_of v k x y roots c.first_step.result 0 c.args.rest)) c.code.ensures.same
    (started-laid code v k x y roots c.first_step.result c.args.predicate c.args.tuple.now c.args.rest c.widths.result c.new.ensures needs c.in_ok-lay_out.ensures.laid
    c.requires.0 (ap (λ (d : Compiled). slice_get d.predicates c.args.predicate) c.code.ensures.same ∙ c.requires.1) c.requires.2 c.first_step.ensures)
