-- Goals and tuples of which each is an instance of the other are the same up to names.
use Rattle.std.proofs.Common.{◌≡◌, ℕ, true, [], refl, ap, sym, ◌∙◌, subst}
use Rattle.ap_laws.proofs.Names.{AllByRecursion-has}
use Rattle.ap_term.specs.Tree.{Tree, Trees, var}
use Rattle.ap_term.specs.Vars.{has, add_all_vars, occurs, occurs_all}
use Rattle.ap_term.specs.Substitution.{instance, instance_all}
use Rattle.ap_term.specs.UpToNames.{SameUpToNames, renumbered}
use Rattle.ap_term.specs.Laws.{KeepsApart}
use Rattle.ap_term.proofs.Copies.{instance_var, instance_all_var, instance_all_twice}
use Rattle.ap_term.proofs.Solutions.{instance_agree, instance_all_agree}
use Rattle.ap_term.proofs.Renamings.{renumbered-renamed}
use Rattle.ap_term.proofs.Locals.{Local-each, LocalAll-each}
use Rattle.ap_term.proofs.TreeLists.{number_of, numbered_var}
use Rattle.ap_laws.specs.Renaming.{Renamed}
use Rattle.ap_laws.specs.Laws.{Inverse}
use Rattle.ap_laws.proofs.Local.{AllByRecursion-add_all_vars}
use Rattle.ap_laws.proofs.Unifiers.{instance_all-at}
use Rattle.ap_laws.proofs.Ways.{Renamed-both}
use Rattle.ap_tracked.specs.Marks.{marked}
use Rattle.ap_tracked.specs.Instances.{Inst}
use Rattle.ap_resolution.specs.Laws.{InstanceLaw, TupleLaw}

-- the numbers of the variables that a map gives
abbrev pub numbers : (ℕ → Tree) → ℕ → ℕ
numbers f x = number_of (f x)

module _ (f g : ℕ → Tree) (ts us : Trees) (there : us ≡ instance_all f ts) (back : ts ≡ instance_all g us) where
  comes_back : (x : ℕ) → occurs_all x ts ≡ true → instance g (f x) ≡ var x
  comes_back x o =
      instance_all-at (λ y. instance g (f y)) (λ y. var y) ts
      (sym (instance_all_twice f g ts) ∙ ap (instance_all g) (sym there) ∙ sym back ∙ sym (instance_all_var ts)) x o

  renames : (x : ℕ) → occurs_all x ts ≡ true → f x ≡ var (numbers f x)
  renames x o = numbered_var g (f x) x (comes_back x o)

  inverse : (x : ℕ) → occurs_all x ts ≡ true → numbers g (numbers f x) ≡ x
  inverse x o = ap number_of (ap (instance g) (sym (renames x o)) ∙ comes_back x o)

  -- a tree whose variables stand in the list
  pub Renamed-part : (t : Tree) → ((x : ℕ) → occurs x t ≡ true → occurs_all x ts ≡ true) → Renamed (Inverse (numbers f) (numbers g)) t (instance f t)
  Renamed-part t inside =
      subst (λ u. Renamed (Inverse (numbers f) (numbers g)) u (instance f t)) (instance_var t)
      (subst (Renamed (Inverse (numbers f) (numbers g)) (instance (λ y. var y) t)) (sym (instance_agree f (λ y. var (numbers f y)) t (λ x o. renames x (inside x o))))
      (Renamed-both (λ y. numbers g (numbers f y) ≡ y) (Inverse (numbers f) (numbers g)) (λ y. var y) (λ y. var (numbers f y)) (λ y e. (refl, e)) t (Local-each (λ y. numbers g (numbers f y) ≡ y) t (λ x o. inverse x (inside x o)))))

  -- a tuple whose variables stand in the list
  pub same-part : (t : Trees) → ((x : ℕ) → occurs_all x t ≡ true → occurs_all x ts ≡ true) → SameUpToNames (instance_all f t) t
  same-part t inside =
      ap renumbered (instance_all_agree f (λ y. var (numbers f y)) t (λ x o. renames x (inside x o))) ∙ renumbered-renamed (numbers f) t apart
    where
      returned : (x : ℕ) → has (add_all_vars t []) x ≡ true → numbers g (numbers f x) ≡ x
      returned = AllByRecursion-has (λ x. numbers g (numbers f x) ≡ x) (add_all_vars t [])
          (AllByRecursion-add_all_vars (λ x. numbers g (numbers f x) ≡ x) t [] (LocalAll-each (λ x. numbers g (numbers f x) ≡ x) t (λ x o. inverse x (inside x o))) tt)

      apart : KeepsApart (numbers f) (add_all_vars t [])
      apart x y h k e = sym (returned x h) ∙ ap (numbers g) e ∙ returned y k

pub instances : InstanceLaw
instances s = (λ x. var x, sym (instance_all_var (marked s.goals)), sym (instance_all_var s.tuple))

pub tuples : TupleLaw
tuples s t general =
    let i : Inst s general.0.0 t = general.0.1 in
    let back : (f : ℕ → Tree) × (s.tuple ≡ instance_all f t) = general.1 (marked s.goals) s.tuple (instances s) in
    ap renumbered i.2 ∙ same-part i.0 back.0 s.tuple t i.2 back.1 s.tuple (λ x o. o)
