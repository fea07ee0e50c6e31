use Rattle.std.proofs.Common.{[], ◌∷◌, ◌++◌, refl, ap, ◌∙◌}
use Rattle.ap_instr.specs.Step.{get_structure}
use Rattle.ap_codegen.specs.Emitted.{steps_of}
use Rattle.ap_codegen.proofs.Turns.{open-structure}
use Rattle.ap_codegen.proofs.permanent.open.Goals as goal

pub returns : goal.returns
returns c =
    open-structure c.args.name c.args.args.now c.args.a c.args.m _ c.args.left.now.items c.push.new.self.items c.args.seen.now.items c.takes.new.seen.items (steps_of c.args.code.now.items) (steps_of c.add.new.code.items)
    (steps_of c.takes.new.code.items) (c.in_ok-add.ensures ∙ ap (λ n. steps_of c.args.code.now.items ++ get_structure c.args.name n c.args.a ∷ []) c.in_ok-count.ensures) c.in_ok-takes.ensures.code
    c.in_ok-takes.ensures.seen c.as_slice-terms.ensures refl c.in_ok-push.ensures.items
