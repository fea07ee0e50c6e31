use Rattle.std.proofs.Common.{slice_get, ap, sym, ◌∙◌, subst}
use Rattle.ap_instr.specs.Code.{Compiled}
use Rattle.ap_needs.specs.Needs.{AreWidthsOf}
use Rattle.ap_machine.specs.View.{paused_of}
use Rattle.ap_machine.specs.Started.{Started}
use Rattle.ap_machine.proofs.Begun.{started-laid}
use Rattle.ap_machine.proofs.state.Search.begin_anew.Goals as goal

pub returns : goal.returns
returns c =
    let code = c.code.result.now in
    let v = c.lay_out.new.cells in
    let x = c.lay_out.new.x.items in
    let y = c.lay_out.new.y.items in
    let roots = c.lay_out.new.roots.items in
    let k = c.clear.new.self in
    let next = c.first_step-self-inside.result in
    let needs : AreWidthsOf code c.widths.result = subst (λ (d : Compiled). AreWidthsOf d c.widths.result) (sym c.code.ensures.same) c.widths.ensures in
    subst (λ (d : Compiled). Started d c.args.tuple.now c.args.predicate c.args.rest (paused_of v k x y roots next 0 c.args.rest)) c.code.ensures.same
    (started-laid code v k x y roots next c.args.predicate c.args.tuple.now c.args.rest c.widths.result c.clear.ensures needs c.in_ok-lay_out.ensures.laid
    c.requires.0 (ap (λ (d : Compiled). slice_get d.predicates c.args.predicate) c.code.ensures.same ∙ c.requires.1) c.requires.2 c.first_step-self-inside.ensures)
