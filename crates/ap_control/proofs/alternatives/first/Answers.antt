use Rattle.std.proofs.Common.{◌≡◌, ◌+◌, Some, drop, slice_get, ap, sym, ◌∙◌}
use Rattle.ap_instr.specs.declared.instruction.Instr.{Instr}
use Rattle.ap_instr.specs.declared.instruction.Instr.TheVariants.{Try, Fail}
use Rattle.ap_instr.specs.StandsFor.{alternatives}
use Rattle.ap_control.proofs.alternatives.first.Goals as goal
use Rattle.ap_term.proofs.Lists.{drop-here, drop-past}
use Rattle.ap_codecheck.proofs.Tried.{alternatives_one}

pub returns-in-None-clause-some : goal.returns-in-None-clause-some
returns-in-None-clause-some c = ap (alternatives c.args.predicate.now.start) (drop-past c.args.code.now.instructions c.args.predicate.now.start (sym c.in-None.ensures))

pub returns-in-Try-clause-some : goal.returns-in-Try-clause-some
returns-in-Try-clause-some c =
    let is = c.args.code.now.instructions in
    let at = c.args.predicate.now.start in
    let e : slice_get is at ≡ Some (Try c.in-Try.place) = sym c.in-Some.ensures ∙ ap (λ (i : Instr). Some i) c.in-Try.is in
    ap (alternatives at) (drop-here is at (Try c.in-Try.place) e)

pub returns-in-Fail-clause-none : goal.returns-in-Fail-clause-none
returns-in-Fail-clause-none c = λ n.
    let is = c.args.code.now.instructions in
    let at = c.args.predicate.now.start in
    let e : slice_get is at ≡ Some Fail = sym c.in-Some.ensures ∙ ap (λ (i : Instr). Some i) c.in-Fail.is in
    ap (alternatives at) (drop-here is at Fail e)

pub returns-in_default : goal.returns-in_default
returns-in_default c =
    let is = c.args.code.now.instructions in
    let at = c.args.predicate.now.start in
    record {
      none = λ n. absurd (let z : ⊥ = cc in z);
      some = ap (alternatives at) (drop-here is at c.in-Some.instr (sym c.in-Some.ensures)) ∙ alternatives_one at c.in-Some.instr (drop (at + 1) is) c.in_default.not-Try c.in_default.not-Fail;
    }
