use Rattle.std.proofs.Common.{◌≡◌, true, false, sym, ap, ◌∙◌}
use Rattle.ap_codegen.specs.Emitted.{steps_of}
use Rattle.ap_codegen.specs.Relocated.{known_by, all_open}
use Rattle.ap_codegen.proofs.RelocatedCode.{tested}
use Rattle.ap_codegen.proofs.relocating.tested.Goals as goal

pub returns-then-all_open : goal.returns-then-all_open
returns-then-all_open c =
    let o : all_open false (steps_of c.in_ok-steps.steps.items) ≡ true = ap (λ es. all_open false (steps_of es)) (sym c.as_slice.ensures.value) ∙ c.all_open.ensures c.if-all_open.true in
    tested c.args.room c.args.changes.now (known_by c.in_ok-walk.walk.numbers) c.in_ok-steps.steps.items c.in_ok-walk.ensures.begun (c.all_fit.ensures c.if-not-all_fit.false) (c.in_ok-all_kept.ensures c.if-not-branch.false).0
    c.in_ok-steps.ensures o
