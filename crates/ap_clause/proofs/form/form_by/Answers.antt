use Rattle.std.proofs.Common.{◌≡◌, [], ◌∷◌, ◌∙◌, ap, sym, map, arith}
use Rattle.std.proofs.lemmas.List.{nil_from_length, append-nil}
use Rattle.ap_reader.specs.Step.{postfix}
use Rattle.ap_reader.specs.Written.{leaf_of, meaning}
use Rattle.ap_reader.specs.Evaluated.{ATerm, evaluated, evaluates, top_term}
use Rattle.ap_clause.specs.Shape.{form_of}
use Rattle.ap_clause.proofs.form.form_by.Goals as goal

pub returns : goal.returns
returns c = λ t e.
    let inv = c.loop-rest.invariant in
    let xs = map leaf_of c.args.leaves.now in
    let none : c.loop-rest.rest.now ≡ [] = nil_from_length c.loop-rest.rest.now (omega arith) in
    let end : inv.0 ≡ ATerm (meaning xs t) ∷ [] =
    ap (evaluated xs inv.0) (sym none) ∙ inv.2 ∙ ap (evaluated xs []) (e ∙ sym (append-nil (postfix t))) ∙ evaluates xs t [] [] in
    (c.pop_term.ensures inv.0 inv.1).0 ∙ ap (λ vs. form_of (top_term vs)) end
