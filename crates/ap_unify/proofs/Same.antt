-- Two most general unifiers are the same up to names.
use Rattle.std.proofs.Common.{◌≡◌, ℕ, Bool, true, false, ◌||◌, [], Option, Some, None, refl, ap, sym, ◌∙◌, subst}
use Rattle.std.proofs.lemmas.Bool.{false≢true}
use Rattle.ap_term.specs.Tree.{Tree, Trees, var, int, atom, node, none, more}
use Rattle.ap_term.specs.Vars.{add_all_vars, occurs, occurs_all}
use Rattle.ap_term.specs.Substitution.{instance, instance_all, Subst, value}
use Rattle.ap_term.specs.Unification.{mgu}
use Rattle.ap_term.specs.Unifier.{Unifies, IsMostGeneral}
use Rattle.ap_term.specs.UpToNames.{SameUpToNames, renumbered}
use Rattle.ap_term.specs.Laws.{KeepsApart}
use Rattle.ap_term.proofs.Copies.{instance_var, instance_twice, instance_all_twice}
use Rattle.ap_term.proofs.Solutions.{same_var, instance_agree, instance_all_agree}
use Rattle.ap_term.proofs.Solvable.{mgu-general}
use Rattle.ap_term.proofs.Renamings.{renumbered-renamed}
use Rattle.ap_term.proofs.TreeLists.{number_of, numbered_var}
use Rattle.ap_cells.proofs.Rounds.{occurs_all-instance}
use Rattle.ap_cells.proofs.Leaves.{stands}
use Rattle.ap_unify.specs.Laws.{SameSubstitution, IsSolution, SolutionLaw}

mutual
  -- maps that give one instance agree on the variables that occur
  instance-at : (f g : ℕ → Tree) (t : Tree) → instance f t ≡ instance g t → (x : ℕ) → occurs x t ≡ true → f x ≡ g x
  instance-at f g (var y) e x o = subst (λ z. f z ≡ g z) (sym (same_var x y o)) e
  instance-at f g (int z) e x o = absurd (false≢true o)
  instance-at f g (atom a) e x o = absurd (false≢true o)
  instance-at f g (node a ts) e x o = instance_all-at f g ts (cc) x o

  instance_all-at : (f g : ℕ → Tree) (ts : Trees) → instance_all f ts ≡ instance_all g ts → (x : ℕ) → occurs_all x ts ≡ true → f x ≡ g x
  instance_all-at f g none e x o = absurd (false≢true o)
  instance_all-at f g (more t ts) e x o = go (occurs x t) refl o (instance-at f g t (cc) x) (instance_all-at f g ts (cc) x)
    where
      go : (b : Bool) → occurs x t ≡ b → (b || occurs_all x ts) ≡ true → (occurs x t ≡ true → f x ≡ g x) → (occurs_all x ts ≡ true → f x ≡ g x) → f x ≡ g x
      go true d p h k = h d
      go false d p h k = k p

-- each of the two gives what the other gives, as a finer instance
module _ (s r : ℕ → Tree) (one : (x : ℕ) → instance r (s x) ≡ r x) (two : (x : ℕ) → instance s (r x) ≡ s x) where
  back : (x y : ℕ) → occurs y (s x) ≡ true → instance s (r y) ≡ var y
  back x y o =
      instance-at (λ z. instance s (r z)) (λ z. var z) (s x)
      (sym (instance_twice r s (s x)) ∙ ap (instance s) (one x) ∙ two x ∙ sym (instance_var (s x))) y o

  variable : (x y : ℕ) → occurs y (s x) ≡ true → r y ≡ var (number_of (r y))
  variable x y o = numbered_var s (r y) y (back x y o)

  renamed_is : (x : ℕ) → r x ≡ instance (λ y. var (number_of (r y))) (s x)
  renamed_is x = sym (one x) ∙ instance_agree r (λ y. var (number_of (r y))) (s x) (variable x)

  inverse : (x y : ℕ) → occurs y (s x) ≡ true → number_of (s (number_of (r y))) ≡ y
  inverse x y o = ap number_of (ap (instance s) (sym (variable x y o)) ∙ back x y o)

  inverse_all : (ts : Trees) (y : ℕ) → occurs_all y (instance_all s ts) ≡ true → number_of (s (number_of (r y))) ≡ y
  inverse_all ts y o = let q = occurs_all-instance s y ts o in inverse q.0 y q.2

  tuples : (ts : Trees) → SameUpToNames (instance_all s ts) (instance_all r ts)
  tuples ts =
      sym (renumbered-renamed (λ y. number_of (r y)) (instance_all s ts) apart)
      ∙ ap renumbered (instance_all_twice s (λ y. var (number_of (r y))) ts ∙ instance_all_agree (λ x. instance (λ y. var (number_of (r y))) (s x)) r ts (λ x o. sym (renamed_is x)))
    where
      apart : KeepsApart (λ y. number_of (r y)) (add_all_vars (instance_all s ts) [])
      apart x y h k e = sym (inverse_all ts x (stands x (instance_all s ts) h)) ∙ ap (λ z. number_of (s z)) e ∙ inverse_all ts y (stands y (instance_all s ts) k)

  same_by : SameSubstitution s r
  same_by = record {
    there = (λ y. number_of (r y), renamed_is);
    back = (λ y. number_of (s y), λ x. sym (two x) ∙ instance_agree s (λ y. var (number_of (s y))) (r x) (other x));
    tuples = tuples;
  }
    where
      other : (x y : ℕ) → occurs y (r x) ≡ true → s y ≡ var (number_of (s y))
      other x y o = numbered_var r (s y) y (instance-at (λ z. instance r (s z)) (λ z. var z) (r x) (sym (instance_twice s r (r x)) ∙ ap (instance r) (two x) ∙ one x ∙ sym (instance_var (r x))) y o)

pub solutions : SolutionLaw
solutions = record {
  succeeds = λ ts us t u a. found t u a.by a.unifies a.general (mgu t u) (mgu-general t u) refl;
  fails = λ ts us t u a. missing t u a (mgu t u) (mgu-general t u) refl;
}
  where
    found : (t u : Tree) (by : ℕ → Tree) → Unifies by t u → ((g : ℕ → Tree) → Unifies g t u → (x : ℕ) → instance g (by x) ≡ g x) → (o : Option Subst) → IsMostGeneral t u o → mgu t u ≡ o → IsSolution t u by
    found t u by e g None h d = absurd (h by e)
    found t u by e g (Some s) h d = (s, (d, same_by by (value s) (g (value s) h.0) (h.1 by e)))

    missing : (t u : Tree) → ((g : ℕ → Tree) → Unifies g t u → ⊥) → (o : Option Subst) → IsMostGeneral t u o → mgu t u ≡ o → mgu t u ≡ None
    missing t u n None h d = d
    missing t u n (Some s) h d = absurd (n (value s) h.0)
