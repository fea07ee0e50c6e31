use Rattle.std.proofs.Common.{◌≡◌, ◌+◌, ◌≤◌, length, drop, sym, ap, ◌∙◌, subst, arith}
use Rattle.ap_needs.specs.Needs.{AllHaveTargets}
use Rattle.ap_engine_tests.proofs.clauses.run.Goals as goal

pub run_to_transfer-requires-clause-room : goal.run_to_transfer-requires-clause-room
run_to_transfer-requires-clause-room c = omega (arith, c.in_ok-room.ensures.cells 0, c.in_ok-reserve.ensures.spare)

pub run_to_transfer-requires-clause-targets : goal.run_to_transfer-requires-clause-targets
run_to_transfer-requires-clause-targets c =
    let x : length c.deref_mut.result.now ≡ c.widths_of-widths.result.x = ap length c.deref_mut.ensures.value ∙ c.in_ok-x.ensures.len in
    let y : length c.deref_mut-2.result.now ≡ c.widths_of-widths.result.y = ap length c.deref_mut-2.ensures.value ∙ c.in_ok-y.ensures.len in
    λ p. subst (λ n. AllHaveTargets (drop p c.args.code.now.instructions) n (length c.deref_mut-2.result.now)) (sym x)
    (subst (AllHaveTargets (drop p c.args.code.now.instructions) c.widths_of-widths.result.x) (sym y) (c.widths_of-widths.ensures.targets p))
