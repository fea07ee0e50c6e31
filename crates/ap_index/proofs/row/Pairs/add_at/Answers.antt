use Rattle.std.proofs.Common.{◌∷◌, sym, ◌∙◌, ap, subst}
use Rattle.std.proofs.lemmas.Result.{IfOk-weaker}
use Rattle.ap_index.specs.Index.{tried_from}
use Rattle.ap_index.specs.Pairs.{ArePairsOf}
use Rattle.ap_index.proofs.Paired.{same-option}
use Rattle.ap_index.proofs.row.Pairs.add_at.Goals as goal

pub returns-in-Some : goal.returns-in-Some
returns-in-Some c =
    let code = c.args.code.now in
    let named = c.in-Some.named in
    let same = same-option named.behind c.args.behind (sym c.if-eq.ensures) in
    IfOk-weaker c.add.result _ _
    (λ added more yes h.
    subst (λ ls. ArePairsOf code ls c.add.new.self) (ap (λ b. named.place ∷ tried_from code b) (sym same) ∙ sym c.in-Some.ensures.names) (more yes (tried_from code c.args.behind) h))
    c.add.ensures
