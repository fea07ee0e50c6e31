use Rattle.std.proofs.Common.{◌≡◌, OnOk, ap, sym, ◌∙◌, subst}
use Rattle.ap_instr.specs.declared.instruction.Slot.TheVariants.{X}
use Rattle.ap_codegen.specs.Emitted.{step_of}
use Rattle.ap_codegen.specs.Relocated.{Known, known_by, former, latter, set_former, set_latter, set_both, behind}
use Rattle.ap_codegen.proofs.relocating.Numbers.keep.Goals as goal

pub returns-in-GetVariable : goal.returns-in-GetVariable
returns-in-GetVariable c =
    let k : Known = known_by c.args.self.now in
    let first : Known = set_former k c.in-GetVariable.v (former k (X c.in-GetVariable.a)) in
    subst (λ q. OnOk c.copy.result (known_by c.copy.new.self ≡ q))
    (ap (λ b. set_latter first c.args.u (latter k (X b))) c.number.ensures ∙ sym (ap (λ s. behind k (step_of s) c.args.u c.args.o) c.in-GetVariable.is)) c.copy.ensures

pub returns-in-PutVariable : goal.returns-in-PutVariable
returns-in-PutVariable c =
    let k : Known = known_by c.args.self.now in
    let first : Known = set_former (set_both k c.in-PutVariable.v c.args.u) (X c.in-PutVariable.a) k.next in
    subst (λ q. OnOk c.make.result (known_by c.make.new.self ≡ q))
    (ap (λ b. set_latter first (X b) k.next) c.number-in-PutVariable.ensures ∙ sym (ap (λ s. behind k (step_of s) c.args.u c.args.o) c.in-PutVariable.is)) c.make.ensures

pub returns-in-UnifyVariable : goal.returns-in-UnifyVariable
returns-in-UnifyVariable c =
    subst (λ q. OnOk c.set_both-in-UnifyVariable.result (known_by c.set_both-in-UnifyVariable.new.self ≡ q)) (sym (ap (λ s. behind (known_by c.args.self.now) (step_of s) c.args.u c.args.o) c.in-UnifyVariable.is)) c.set_both-in-UnifyVariable.ensures
