use Rattle.std.proofs.Common.{◌≡◌, ◌++◌, [], ◌∷◌, length, ap, ◌∙◌, arith}
use Rattle.ap_codegen.specs.declared.steps.Step.TheVariants.{Jump}
use Rattle.ap_codegen.proofs.PartLeads.{ways_written}
use Rattle.ap_codegen.proofs.groups.ways.Goals as goal

pub returns-clause-written : goal.returns-clause-written
returns-clause-written c =
    let n : c.in_ok-above.field-0 ≡ length c.in_ok-sides.sides.items = omega (arith, c.in_ok-above.ensures, c.len.ensures, c.in_ok-sides.sides.ok.0) in
    let m : c.in_ok-above-2.field-0 ≡ length c.in_ok-turns.turns.items = omega (arith, c.in_ok-above-2.ensures, c.len-2.ensures, c.in_ok-turns.turns.ok.0) in
    ways_written c.args.tests.now c.args.calls.now c.args.seen.now.items c.in_ok-code.code.items c.in_ok-sides.sides.items c.in_ok-turns.turns.items c.append-2.new.self.items c.in_ok-above.field-0 c.in_ok-above-2.field-0
    c.in_ok-sides.ensures.written c.in_ok-turns.ensures n m c.in_ok-code.ensures
    (c.in_ok-append-2.ensures.items ∙ ap (λ es. es ++ c.in_ok-turns.turns.items) (c.in_ok-push.ensures.items ∙ ap (λ es. es ++ Jump c.in_ok-above-2.field-0 ∷ []) c.in_ok-append.ensures.items))
