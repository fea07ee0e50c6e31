use Rattle.std.proofs.Common.{◌≡◌, ℕ, ◌+◌, OnOk, ap, ◌∙◌, subst}
use Rattle.ap_codegen.specs.Relocated.{Known, known_by, set_former, set_latter}
use Rattle.ap_codegen.proofs.relocating.Numbers.set_both.Goals as goal

pub returns : goal.returns
returns c =
    let k : Known = known_by c.args.self.now in
    let counted : ℕ → Known = λ n. record { former_x = k.former_x; former_y = k.former_y; latter_x = k.latter_x; latter_y = k.latter_y; next = n } in
    let n : c.in-Some.next ≡ k.next + 1 = c.in-Some.ensures.1 in
    let e : known_by c.set_former.new.self ≡ set_former (counted (k.next + 1)) c.args.v k.next = c.in_ok-set_former.ensures ∙ ap (λ n. set_former (counted n) c.args.v k.next) n in
    subst (λ q. OnOk c.set_latter.result (known_by c.set_latter.new.self ≡ q)) (ap (λ q. set_latter q c.args.u k.next) e) c.set_latter.ensures
