use Rattle.std.proofs.Common.{◌≡◌, ◌+◌, Some, length, drop, slice_get, ap, sym, ◌∙◌, arith}
use Rattle.ap_instr.specs.declared.instruction.Instr.{Instr}
use Rattle.ap_instr.specs.declared.instruction.Instr.TheVariants.{Retry, Trust}
use Rattle.ap_instr.specs.StandsFor.{tried}
use Rattle.ap_control.proofs.Choices.{drop-beyond, tried-other}
use Rattle.ap_control.proofs.alternatives.named_at.Goals as goal
use Rattle.ap_term.proofs.Lists.{drop-here, drop-past}

pub returns-then-at-instructions-clause-none : goal.returns-then-at-instructions-clause-none
returns-then-at-instructions-clause-none c = λ n. ap tried (drop-beyond c.args.code.now.instructions c.args.at (let l = ap length c.instructions.ensures in omega arith))

pub returns-in-None-clause-none : goal.returns-in-None-clause-none
returns-in-None-clause-none c = λ n. ap tried (drop-past c.args.code.now.instructions c.args.at (sym c.in-None.ensures))

pub returns-in-Retry-clause-some : goal.returns-in-Retry-clause-some
returns-in-Retry-clause-some c =
    let is = c.args.code.now.instructions in
    let e : slice_get is c.args.at ≡ Some (Retry c.in-Retry.place) = sym c.in-Some.ensures ∙ ap (λ (i : Instr). Some i) c.in-Retry.is in
    ap tried (drop-here is c.args.at (Retry c.in-Retry.place) e)

pub returns-in-Trust-clause-some : goal.returns-in-Trust-clause-some
returns-in-Trust-clause-some c =
    let is = c.args.code.now.instructions in
    let e : slice_get is c.args.at ≡ Some (Trust c.in-Trust.place) = sym c.in-Some.ensures ∙ ap (λ (i : Instr). Some i) c.in-Trust.is in
    ap tried (drop-here is c.args.at (Trust c.in-Trust.place) e)

pub returns-in_default : goal.returns-in_default
returns-in_default c =
    let is = c.args.code.now.instructions in
    record {
      none = λ n. ap tried (drop-here is c.args.at c.in-Some.instr (sym c.in-Some.ensures)) ∙ tried-other c.in-Some.instr (drop (c.args.at + 1) is) c.in_default.not-Retry c.in_default.not-Trust;
      some = tt;
    }
