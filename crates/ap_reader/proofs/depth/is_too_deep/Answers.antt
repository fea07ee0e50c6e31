use Rattle.std.proofs.Common.{◌≡◌, ℕ, [], ◌∷◌, ◌∙◌, ap, sym, map, nat_lt, length, arith}
use Rattle.std.proofs.lemmas.Bool.{le-ltb}
use Rattle.std.proofs.lemmas.Bool.Decides.{nat_tests}
use Rattle.std.proofs.lemmas.List.{nil_from_length, append-nil}
use Rattle.ap_reader.specs.Step.{postfix}
use Rattle.ap_reader.specs.Written.{leaf_of, meaning}
use Rattle.ap_reader.specs.Evaluated.{ATerm, evaluated, evaluates, top_term}
use Rattle.ap_reader.specs.Depth.{depth, capped}
use Rattle.ap_reader.specs.declared.depth.TheConstants.{MAX_DEPTH}
use Rattle.ap_reader.proofs.Few.{levels_few}
use Rattle.ap_reader.proofs.depth.is_too_deep.Goals as goal

past_cap : (n d : ℕ) → n ≡ capped d → nat_lt 1000 n ≡ nat_lt 1000 d
past_cap n d e = grind (arith, nat_tests)

pub returns : goal.returns
returns c = λ t e.
    let inv = c.loop-rest.invariant in
    let xs = map leaf_of c.args.leaves.now in
    let none : c.loop-rest.rest.now ≡ [] = nil_from_length c.loop-rest.rest.now (omega arith) in
    let end : inv.0 ≡ ATerm (meaning xs t) ∷ [] =
    ap (evaluated xs inv.0) (sym none) ∙ inv.2 ∙ ap (evaluated xs []) (e ∙ sym (append-nil (postfix t))) ∙ evaluates xs t [] [] in
    past_cap c.pop_term.result (depth (meaning xs t)) ((c.pop_term.ensures inv.0 inv.1).0 ∙ ap (λ vs. capped (depth (top_term vs))) end)

pub returns-then-steps-le-MAX_DEPTH : goal.returns-then-steps-le-MAX_DEPTH
returns-then-steps-le-MAX_DEPTH c = λ t e.
    sym (le-ltb MAX_DEPTH (depth (meaning (map leaf_of c.args.leaves.now) t)) (omega (arith, levels_few c.args.leaves.now t, ap length e, c.if-steps-le-MAX_DEPTH.true)))
