use Rattle.std.proofs.Common.{◌≡◌, OnOk, ap, sym, ◌∙◌, subst}
use Rattle.ap_codegen.specs.Emitted.{step_of}
use Rattle.ap_codegen.specs.Relocated.{Known, known_by, set_former, behind_none}
use Rattle.ap_codegen.proofs.relocating.Numbers.leave_out.Goals as goal

pub returns-in-GetVariable : goal.returns-in-GetVariable
returns-in-GetVariable c =
    let k : Known = known_by c.args.self.now in
    subst (λ q. OnOk c.set_former.result (known_by c.set_former.new.self ≡ q)) (ap (set_former k c.in-GetVariable.v) c.former-n.ensures ∙ sym (ap (λ s. behind_none k (step_of s)) c.in-GetVariable.is)) c.set_former.ensures
