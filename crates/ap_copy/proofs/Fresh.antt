-- A block of variables alone.
use Rattle.std.proofs.Common.{◌≡◌, ℕ, zero, suc, ◌+◌, ◌<◌, List, refl, ap, ap₂, sym, ◌∙◌, arith}
use Rattle.ap_term.specs.Tree.{Tree, var, none, more, push_tree}
use Rattle.ap_term.specs.Substitution.{instance, instance_all, shift}
use Rattle.ap_term.specs.UpToNames.{renumbered, SameUpToNames}
use Rattle.ap_term.specs.Search.{variables}
use Rattle.ap_term.proofs.TermLists.{instance_all-push}
use Rattle.ap_cells.specs.Trees.{tree_at, span}
use Rattle.ap_copy.proofs.Moves.{shift-same}

span-push : (ts : List Tree) (p n : ℕ) → span ts p (suc n) ≡ push_tree (span ts p n) (tree_at ts (p + n))
span-push ts p zero = let e : p ≡ p + 0 = omega arith in ap (λ q. more (tree_at ts q) none) e
span-push ts p (suc n) =
    let e : (p + 1) + n ≡ p + suc n = omega arith in
    ap (more (tree_at ts p)) (span-push ts (p + 1) n ∙ ap (λ q. push_tree (span ts (p + 1) n) (tree_at ts q)) e)

shifted-names : (ts : List Tree) (n : ℕ) → ((i : ℕ) → i < n → tree_at ts i ≡ var i) → instance_all (shift 1) (span ts 0 n) ≡ variables n
shifted-names ts zero h = refl
shifted-names ts (suc n) h =
    let e : 0 + n ≡ n = omega arith in
    let s : n + 1 ≡ suc n = omega arith in
    ap (instance_all (shift 1)) (span-push ts 0 n)
    ∙ instance_all-push (shift 1) (span ts 0 n) (tree_at ts (0 + n))
    ∙ ap₂ push_tree (shifted-names ts n (λ i l. h i (omega arith))) (ap (λ i. instance (shift 1) (tree_at ts i)) e ∙ ap (instance (shift 1)) (h n (omega arith)) ∙ ap var s)

-- its terms are different variables
pub names-variables : (ts : List Tree) (n : ℕ) → ((i : ℕ) → i < n → tree_at ts i ≡ var i) → SameUpToNames (span ts 0 n) (variables n)
names-variables ts n h = sym (shift-same 1 (span ts 0 n)) ∙ ap renumbered (shifted-names ts n h)
