-- Lists of goals.
use Rattle.std.proofs.Common.{◌≡◌, ℕ, ◌+◌, ◌<◌, List, [], ◌∷◌, ◌++◌, map, length, take, get_or, append_assoc, refl, ap, sym, ◌∙◌}
use Rattle.ap_term.specs.declared.terms.Term.{Term}
use Rattle.ap_term.specs.Tree.{Tree, Trees, none, more, push_tree}
use Rattle.ap_term.specs.TermView.{tree_of, trees_of}
use Rattle.ap_term.specs.Substitution.{instance}
use Rattle.ap_term.specs.Goals.{Part, call, calls, instance_part}
use Rattle.ap_term.proofs.TermLists.{trees_of-take_more}

calls-push : (f : ℕ → Tree) (ts : Trees) (t : Tree) → map (instance_part f) (calls (push_tree ts t)) ≡ map (instance_part f) (calls ts) ++ call (instance f t) ∷ []
calls-push f none t = refl
calls-push f (more u ts) t = ap (λ ps. call (instance f u) ∷ ps) (calls-push f ts t)

-- the instance of one more goal
pub calls-turn : (f : ℕ → Tree) (ts : List Term) (i : ℕ) (t : Term) (u : Tree) (before out new : List Part) → i < length ts → t ≡ get_or ts i t → u ≡ instance f (tree_of t)
    → new ≡ out ++ call u ∷ [] → out ≡ before ++ map (instance_part f) (calls (trees_of (take i ts))) → new ≡ before ++ map (instance_part f) (calls (trees_of (take (i + 1) ts)))
calls-turn f ts i t u before out new h is e k inv =
    k ∙ ap (λ v. out ++ call v ∷ []) e ∙ ap (λ o. o ++ call (instance f (tree_of t)) ∷ []) inv
    ∙ append_assoc before (map (instance_part f) (calls (trees_of (take i ts)))) (call (instance f (tree_of t)) ∷ [])
    ∙ ap (λ c. before ++ c) (sym (ap (λ us. map (instance_part f) (calls us)) (trees_of-take_more ts i t h is) ∙ calls-push f (trees_of (take i ts)) (tree_of t)))
