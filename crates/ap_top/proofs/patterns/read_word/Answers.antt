use Rattle.std.proofs.Common.{◌∙◌, ◌++◌, codes, List, ℕ, IfOk, MatchOption, ap, subst}
use Rattle.ap_term.specs.Tree.{Tree}
use Rattle.ap_term.specs.TermView.{tree_of}
use Rattle.ap_top.specs.Patterns.{ReadsText}
use Rattle.ap_top.proofs.patterns.read_word.Goals as goal

pub returns-clause-read : goal.returns-clause-read
returns-clause-read c =
    let first = c.in_ok-extend_from_slice.ensures.items ∙ ap (λ z. z ++ c.as_bytes.result.now) c.new-text.ensures.items ∙ c.as_bytes.ensures.value in
    let same = c.as_slice.ensures.value ∙ c.in_ok-extend_from_slice-2.ensures.items ∙ ap (λ z. z ++ codes " .") first in
    let P : List ℕ → Type 0 =
    λ x. IfOk c.read_text.result (λ o. MatchOption o ((t : Tree) → ReadsText x c.args.atoms.now t → ⊥) (λ t. ReadsText x c.args.atoms.now (tree_of t))) in
    subst P same c.read_text.ensures.read
