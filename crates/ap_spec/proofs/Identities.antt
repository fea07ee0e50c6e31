-- Identical terms, argument by argument.
use Rattle.std.proofs.Common.{◌≡◌, ◌≢◌, false, ◌&&◌, List, [], ◌∷◌, length, refl, ap, sym, ◌∙◌, suc}
use Rattle.std.proofs.Math.Bool.{and-false, and-true, and_assoc}
use Rattle.ap_term.specs.declared.terms.Term.{Term}
use Rattle.ap_term.specs.Tree.{Tree, Trees, none, more, push_tree}
use Rattle.ap_term.specs.TermView.{tree_of, trees_of}
use Rattle.ap_term.specs.Identical.{identical, identical_all}
use Rattle.ap_term.proofs.TermLists.{size_all-push, item_smaller}

pub identical_all-lengths : (ts us : List Term) → length ts ≢ length us → identical_all (trees_of ts) (trees_of us) ≡ false
identical_all-lengths [] [] h = absurd (h refl)
identical_all-lengths [] (u ∷ us) h = refl
identical_all-lengths (t ∷ ts) [] h = refl
identical_all-lengths (t ∷ ts) (u ∷ us) h =
    ap (λ b. identical (tree_of t) (tree_of u) && b) (identical_all-lengths ts us (λ e. h (ap suc e))) ∙ and-false (identical (tree_of t) (tree_of u))

pub identical-push_none : (ts : Trees) (t : Tree) → identical_all (push_tree ts t) none ≡ false
identical-push_none none t = refl
identical-push_none (more u ts) t = refl

pub identical-none_push : (ts : Trees) (t : Tree) → identical_all none (push_tree ts t) ≡ false
identical-none_push none t = refl
identical-none_push (more u ts) t = refl

pub identical_all-push : (ts us : Trees) (t u : Tree) → identical_all (push_tree ts t) (push_tree us u) ≡ (identical_all ts us && identical t u)
identical_all-push none none t u = and-true (identical t u)
identical_all-push none (more v us) t u = ap (λ b. identical t v && b) (identical-none_push us u) ∙ and-false (identical t v)
identical_all-push (more w ts) none t u = ap (λ b. identical w u && b) (identical-push_none ts t) ∙ and-false (identical w u)
identical_all-push (more w ts) (more v us) t u =
    ap (λ b. identical w v && b) (identical_all-push ts us t u) ∙ sym (and_assoc (identical w v) (identical_all ts us) (identical t u))

pub ruleset rules_of_identical = (identical_all-push, identical_all-lengths, identical-push_none, identical-none_push, size_all-push, item_smaller)
