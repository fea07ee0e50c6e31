use Rattle.std.proofs.Common.{◌≡◌, OnOk, ap, ◌∙◌, subst}
use Rattle.ap_codegen.specs.Relocated.{Known, known_by, former, set_former, set_latter}
use Rattle.ap_codegen.proofs.relocating.Numbers.copy.Goals as goal

pub returns : goal.returns
returns c =
    let k : Known = known_by c.args.self.now in
    let first : Known = set_former k c.args.v (former k c.args.was) in
    let e : known_by c.set_former.new.self ≡ first = c.in_ok-set_former.ensures ∙ ap (set_former k c.args.v) c.former-former.ensures in
    subst (λ q. OnOk c.set_latter.result (known_by c.set_latter.new.self ≡ q)) (ap (λ k. set_latter k c.args.u c.latter-latter.result) e ∙ ap (set_latter first c.args.u) c.latter-latter.ensures) c.set_latter.ensures
