-- Terms of other numbers of arguments than a definition singles out.
use Rattle.std.proofs.Common.{◌≡◌, ℕ, ◌≤◌, false, List, [], ◌∷◌, length, get_or, refl, ap, sym, arith}
use Rattle.ap_term.specs.declared.terms.Term.{Term}
use Rattle.ap_term.specs.Tree.{none, more, node}
use Rattle.ap_term.specs.TermView.{tree_of, trees_of}
use Rattle.ap_clause.specs.Arity.{is_one}
use Rattle.ap_clause.specs.Clause.{conditions_in}

pub conditions_in-many : (f : ℕ) (ts : List Term) → 3 ≤ length ts → conditions_in (node f (trees_of ts)) ≡ []
conditions_in-many f [] h = refl
conditions_in-many f (t ∷ []) h = absurd (omega arith)
conditions_in-many f (t ∷ (u ∷ [])) h = absurd (omega arith)
conditions_in-many f (t ∷ (u ∷ (v ∷ ts))) h = refl

pub one_other : (ts : List Term) → (length ts ≡ 1 → ⊥) → is_one (trees_of ts) ≡ false
one_other [] h = refl
one_other (t ∷ []) h = absurd (h refl)
one_other (t ∷ (u ∷ ts)) h = refl

pub trees_of-one : (ts : List Term) (t : Term) → length ts ≡ 1 → t ≡ get_or ts 0 t → trees_of ts ≡ more (tree_of t) none
trees_of-one [] t h e = absurd (omega arith)
trees_of-one (x ∷ []) t h e = ap (λ v. more (tree_of v) none) (sym e)
trees_of-one (x ∷ (y ∷ ts)) t h e = absurd (omega arith)

pub ruleset arities = (one_other, trees_of-one)
