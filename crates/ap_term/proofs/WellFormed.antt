-- Goals and lists of goals that are well formed.
use Rattle.std.proofs.Common.{◌≡◌, ℕ, zero, suc, ◌≤◌, true, ◌&&◌, nat_le, refl, ap, ◌∙◌, arith}
use Rattle.std.specs.List.{list_all}
use Rattle.std.proofs.lemmas.Bool.{false≢true, and_parts, and_from}
use Rattle.std.proofs.lemmas.Bool.Decides.{nat_tests}
use Rattle.ap_term.specs.Tree.{Tree, Trees, var, int, atom, node, none, more, push_tree, append_trees}
use Rattle.ap_term.specs.Substitution.{instance}
use Rattle.ap_term.specs.Goals.{calls}
use Rattle.ap_term.specs.WellFormed.{in_range, numbered, numbered_all, callable, all_callable, well_formed_part}
use Rattle.ap_term.specs.Search.{variables}
use Rattle.ap_term.proofs.TreeLists.{count_trees-instance_all}

pub in_range-true : (n k : ℕ) → 1 ≤ k → k ≤ n → in_range n k ≡ true
in_range-true n k h j = grind (arith, nat_tests)

pub numbered_all-push : (n : ℕ) (ts : Trees) (t : Tree) → numbered_all n ts ≡ true → numbered n t ≡ true → numbered_all n (push_tree ts t) ≡ true
numbered_all-push n none t h k = and_from (numbered n t) true k refl
numbered_all-push n (more u ts) t h k =
    and_from (numbered n u) (numbered_all n (push_tree ts t)) (and_parts (numbered n u) (numbered_all n ts) h).0
    (numbered_all-push n ts t (and_parts (numbered n u) (numbered_all n ts) h).1 k)

pub numbered_all-variables : (n m : ℕ) → m ≤ n → numbered_all n (variables m) ≡ true
numbered_all-variables n zero h = refl
numbered_all-variables n (suc m) h = numbered_all-push n (variables m) (var (suc m)) (numbered_all-variables n m (omega arith)) (in_range-true n (suc m) (omega arith) h)

pub all_callable-append : (ts us : Trees) → all_callable ts ≡ true → all_callable us ≡ true → all_callable (append_trees ts us) ≡ true
all_callable-append none us h k = k
all_callable-append (more t ts) us h k =
    let b = and_parts (callable t) (all_callable ts) h in
    and_from (callable t) (all_callable (append_trees ts us)) b.0 (all_callable-append ts us b.1 k)

pub callable-instance : (f : ℕ → Tree) (t : Tree) → callable t ≡ true → callable (instance f t) ≡ true
callable-instance f (var x) h = absurd (false≢true h)
callable-instance f (int z) h = absurd (false≢true h)
callable-instance f (atom a) h = refl
callable-instance f (node a ts) h = ap (λ n. nat_le 1 n && nat_le n 255) (count_trees-instance_all f ts) ∙ h

-- goals that can be called, as parts of a body
pub calls-formed : (n : ℕ) (ts : Trees) → all_callable ts ≡ true → numbered_all n ts ≡ true → list_all (well_formed_part n) (calls ts) ≡ true
calls-formed n none h k = refl
calls-formed n (more t ts) h k =
    let a = and_parts (callable t) (all_callable ts) h in
    let b = and_parts (numbered n t) (numbered_all n ts) k in
    and_from (callable t && numbered n t) (list_all (well_formed_part n) (calls ts)) (and_from (callable t) (numbered n t) a.0 b.0) (calls-formed n ts a.1 b.1)
