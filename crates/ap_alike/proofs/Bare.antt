-- Terms of which no variable is found, and lists that are alike from a place on.
use Rattle.std.proofs.Common.{◌≡◌, ℕ, ◌+◌, ◌<◌, Bool, true, false, List, [], length, drop, get_or, refl, ap, sym, ◌∙◌, subst}
use Rattle.std.proofs.lemmas.Bool.{false≢true}
use Rattle.std.proofs.Math.Seq.{drop-length}
use Rattle.ap_term.specs.declared.terms.Term.{Term}
use Rattle.ap_term.specs.Tree.{Tree, none, more}
use Rattle.ap_term.specs.TermView.{tree_of, trees_of}
use Rattle.ap_term.specs.Vars.{has, vars, occurs}
use Rattle.ap_term.specs.Independence.{IsGround}
use Rattle.ap_term.proofs.Solvable.{has-add_vars}
use Rattle.ap_term.proofs.TermLists.{trees_of-drop_more}
use Rattle.ap_alike.specs.Alike.{IsAlikeArgument, AreAlikeArguments, IsAlikeGoal, AreAlikeGoals}

pub found-none : (t : Tree) → vars t ≡ [] → IsGround t
found-none t e x = go (occurs x t) refl
  where
    go : (b : Bool) → occurs x t ≡ b → occurs x t ≡ false
    go false h = h
    go true h = let in_none : has (vars t) x ≡ true = has-add_vars x t [] h in absurd (false≢true (ap (λ xs. has xs x) (sym e) ∙ in_none))

pub arguments-step : (ts us : List Term) (i : ℕ) (t u : Term) → i < length ts → i < length us → t ≡ get_or ts i t → u ≡ get_or us i u → IsAlikeArgument (tree_of t) (tree_of u)
    → AreAlikeArguments (trees_of (drop (i + 1) ts)) (trees_of (drop (i + 1) us)) → AreAlikeArguments (trees_of (drop i ts)) (trees_of (drop i us))
arguments-step ts us i t u l m e f a rest =
    subst (λ x. AreAlikeArguments x (trees_of (drop i us))) (sym (trees_of-drop_more ts i t l e))
    (subst (λ y. AreAlikeArguments (more (tree_of t) (trees_of (drop (i + 1) ts))) y) (sym (trees_of-drop_more us i u m f)) (a, rest))

pub arguments-end : (ts us : List Term) (n : ℕ) → n ≡ length ts → n ≡ length us → AreAlikeArguments (trees_of (drop n ts)) (trees_of (drop n us))
arguments-end ts us n l m =
    subst (λ x. AreAlikeArguments (trees_of x) (trees_of (drop n us))) (sym (ap (λ k. drop k ts) l ∙ drop-length ts))
    (subst (λ y. AreAlikeArguments none (trees_of y)) (sym (ap (λ k. drop k us) m ∙ drop-length us)) tt)

pub goals-step : (ts us : List Term) (i : ℕ) (t u : Term) → i < length ts → i < length us → t ≡ get_or ts i t → u ≡ get_or us i u → IsAlikeGoal (tree_of t) (tree_of u)
    → AreAlikeGoals (trees_of (drop (i + 1) ts)) (trees_of (drop (i + 1) us)) → AreAlikeGoals (trees_of (drop i ts)) (trees_of (drop i us))
goals-step ts us i t u l m e f a rest =
    subst (λ x. AreAlikeGoals x (trees_of (drop i us))) (sym (trees_of-drop_more ts i t l e))
    (subst (λ y. AreAlikeGoals (more (tree_of t) (trees_of (drop (i + 1) ts))) y) (sym (trees_of-drop_more us i u m f)) (a, rest))

pub goals-end : (ts us : List Term) (n : ℕ) → n ≡ length ts → n ≡ length us → AreAlikeGoals (trees_of (drop n ts)) (trees_of (drop n us))
goals-end ts us n l m =
    subst (λ x. AreAlikeGoals (trees_of x) (trees_of (drop n us))) (sym (ap (λ k. drop k ts) l ∙ drop-length ts))
    (subst (λ y. AreAlikeGoals none (trees_of y)) (sym (ap (λ k. drop k us) m ∙ drop-length us)) tt)
