-- What built-in goals make of a state.
use Rattle.std.proofs.Common.{◌≡◌, ℕ, ℤ, pos, Bool, true, false, nat_eq, List, [], ◌∷◌, Option, Some, None, refl, ap, ap₂, sym, ◌∙◌, subst}
use Rattle.std.proofs.lemmas.Bool.{false≢true, or_left}
use Rattle.ap_tracked.specs.Sets.{IsSetOf, IsGeneralGoal, Behind, Equated, Valued}
use Rattle.ap_term.specs.declared.fixed.TheConstants.{UNIFY, IS}
use Rattle.ap_term.specs.Tree.{Tree, Trees, int, node, none, more}
use Rattle.ap_term.specs.Vars.{occurs}
use Rattle.ap_term.specs.Substitution.{Subst, instance, instance_all}
use Rattle.ap_term.specs.Unification.{mgu}
use Rattle.ap_term.specs.Goals.{Program}
use Rattle.ap_term.specs.Arithmetic.{eval}
use Rattle.ap_term.specs.Builtins.{builtin, unified_value}
use Rattle.ap_tracked.specs.Tracked.{Goal, call, opened, Tracked, child_if, call_children, children_by, children}
use Rattle.ap_tracked.specs.Marks.{marked}
use Rattle.ap_tracked.specs.Instances.{Inst}
use Rattle.ap_term.proofs.Solutions.{same_var, same_test}
use Rattle.ap_laws.specs.Renaming.{OptionZip, Renamed, RenamedSubst}
use Rattle.ap_laws.specs.Laws.{Inverse}
use Rattle.ap_laws.proofs.Renamed.{IsOneToOne}
use Rattle.ap_laws.proofs.Builtins.{Renamed-eval, Renamed-builtin}
use Rattle.ap_resolution.specs.Laws.{BuiltinLaw}
use Rattle.ap_resolution.proofs.Unified.{Meets, goals-are, IsSetOf-same, by_unifier, unified_child}
use Rattle.ap_resolution.proofs.Variants.{numbers, instances, Renamed-part}

IsOneToOne-Inverse : (f g : ℕ → ℕ) → IsOneToOne (Inverse f g)
IsOneToOne-Inverse f g x x' y y' h k = go (nat_eq x y) (nat_eq x' y') refl refl
  where
    go : (b c : Bool) → nat_eq x y ≡ b → nat_eq x' y' ≡ c → nat_eq x y ≡ nat_eq x' y'
    go true true p q = p ∙ sym q
    go false false p q = p ∙ sym q
    go true false p q = absurd (false≢true (sym q ∙ same_test x' y' (sym h.0 ∙ ap f (same_var x y p) ∙ k.0)))
    go false true p q = absurd (false≢true (sym p ∙ same_test x y (sym h.1 ∙ ap g (same_var x' y' q) ∙ k.1)))

-- the children by a built-in goal's answer
children-by : (p : Program) (s : Tracked) (f : Tree) (rest : List Goal) → s.goals ≡ call f ∷ rest → children p s ≡ call_children p s f rest (builtin f)
children-by p s f rest e = ap (λ gs. children_by p s (opened gs)) e

-- a goal that binds nothing
behind : (s : Tracked) (f : Tree) (rest : List Goal) → s.goals ≡ call f ∷ rest → IsSetOf (Behind (Inst s)) (child_if s rest (Some []) [] 0)
behind s f rest opens =
    IsSetOf-same (Meets s (int (pos 0)) (int (pos 0)) rest) (Behind (Inst s)) (λ gs t. (there gs t, back gs t))
    (child_if s rest (Some []) [] 0) (by_unifier s rest [] 0 (int (pos 0)) (int (pos 0)) (Some []) (refl, λ h e x. refl))
  where
    there : (gs t : Trees) → Meets s (int (pos 0)) (int (pos 0)) rest gs t → Behind (Inst s) gs t
    there gs t m = (instance m.0 f, (m.0, ap (more (instance m.0 f)) m.2 ∙ ap (instance_all m.0) (sym (goals-are s f rest opens)), m.3))

    back : (gs t : Trees) → Behind (Inst s) gs t → Meets s (int (pos 0)) (int (pos 0)) rest gs t
    back gs t b =
        let e : more b.0 gs ≡ more (instance b.1.0 f) (instance_all b.1.0 (marked rest)) = b.1.1 ∙ ap (instance_all b.1.0) (goals-are s f rest opens) in
        let d : gs ≡ instance_all b.1.0 (marked rest) = cc in
        (b.1.0, refl, d, b.1.2)

-- a goal that equates
equated : (p : Program) (s : Tracked) (a b : Tree) (rest : List Goal) → s.goals ≡ call (node UNIFY (more a (more b none))) ∷ rest → IsSetOf (Equated (Inst s)) (children p s)
equated p s a b rest opens =
    subst (IsSetOf (Equated (Inst s))) (sym (children-by p s (node UNIFY (more a (more b none))) rest opens))
    (IsSetOf-same (Meets s a b rest) (Equated (Inst s)) (λ gs t. (there gs t, back gs t)) (child_if s rest (mgu a b) [] 0) (unified_child s rest [] 0 a b))
  where
    goals : (k : ℕ → Tree) → instance_all k (marked s.goals) ≡ more (node UNIFY (more (instance k a) (more (instance k b) none))) (instance_all k (marked rest))
    goals k = ap (instance_all k) (goals-are s (node UNIFY (more a (more b none))) rest opens)

    there : (gs t : Trees) → Meets s a b rest gs t → Equated (Inst s) gs t
    there gs t m =
        let k : ℕ → Tree = m.0 in
        (instance k a, (k, ap₂ (λ u us. more (node UNIFY (more (instance k a) (more u none))) us) m.1 m.2 ∙ sym (goals k), m.3))

    back : (gs t : Trees) → Equated (Inst s) gs t → Meets s a b rest gs t
    back gs t h =
        let k : ℕ → Tree = h.1.0 in
        let e : more (node UNIFY (more h.0 (more h.0 none))) gs ≡ more (node UNIFY (more (instance k a) (more (instance k b) none))) (instance_all k (marked rest)) = h.1.1 ∙ goals k in
        let l : instance k a ≡ instance k b = cc in
        let d : gs ≡ instance_all k (marked rest) = cc in
        (k, l, d, h.1.2)

-- a goal that gives a value
valued : (p : Program) (s : Tracked) (a b : Tree) (rest : List Goal) (z : ℤ) → s.goals ≡ call (node IS (more a (more b none))) ∷ rest → eval b ≡ Some z → IsSetOf (Valued (Inst s) z) (children p s)
valued p s a b rest z opens value_is =
    subst (IsSetOf (Valued (Inst s) z)) (sym (children-by p s (node IS (more a (more b none))) rest opens ∙ ap (λ v. child_if s rest (unified_value a v) [] 0) value_is))
    (IsSetOf-same (Meets s a (int z) rest) (Valued (Inst s) z) (λ gs t. (there gs t, back gs t)) (child_if s rest (mgu a (int z)) [] 0) (unified_child s rest [] 0 a (int z)))
  where
    goals : (k : ℕ → Tree) → instance_all k (marked s.goals) ≡ more (node IS (more (instance k a) (more (instance k b) none))) (instance_all k (marked rest))
    goals k = ap (instance_all k) (goals-are s (node IS (more a (more b none))) rest opens)

    there : (gs t : Trees) → Meets s a (int z) rest gs t → Valued (Inst s) z gs t
    there gs t m =
        let k : ℕ → Tree = m.0 in
        (instance k b, (k, ap₂ (λ u us. more (node IS (more u (more (instance k b) none))) us) (sym m.1) m.2 ∙ sym (goals k), m.3))

    back : (gs t : Trees) → Valued (Inst s) z gs t → Meets s a (int z) rest gs t
    back gs t h =
        let k : ℕ → Tree = h.1.0 in
        let e : more (node IS (more (int z) (more h.0 none))) gs ≡ more (node IS (more (instance k a) (more (instance k b) none))) (instance_all k (marked rest)) = h.1.1 ∙ goals k in
        let l : instance k a ≡ int z = cc in
        let d : gs ≡ instance_all k (marked rest) = cc in
        (k, l, d, h.1.2)

-- the goal that stands for the first one, under the map that leads there
module _ (s : Tracked) (f : Tree) (rest : List Goal) (g : Tree) (opens : s.goals ≡ call f ∷ rest) (general : IsGeneralGoal (Inst s) g) where
  own : (k : ℕ → Tree) × (f ≡ instance k g)
  own = general.1 f (marked rest) s.tuple (subst (λ gs. Inst s gs s.tuple) (goals-are s f rest opens) (instances s))

  back : (k : ℕ → Tree) × (g ≡ instance k f)
  back =
      let k : ℕ → Tree = general.0.2.0 in
      let e : more g general.0.0 ≡ more (instance k f) (instance_all k (marked rest)) = general.0.2.1 ∙ ap (instance_all k) (goals-are s f rest opens) in
      let d : g ≡ instance k f = cc in
      (k, d)

  first : f ≡ instance own.0 g
  first = own.1

  related : (r q : ℕ → ℕ) × Renamed (Inverse r q) g (instance own.0 g)
  related = (
    numbers own.0,
    numbers back.0,
    Renamed-part own.0 back.0 (more g none) (more f none) (ap (λ u. more u none) own.1) (ap (λ u. more u none) back.1) g (λ x o. or_left (occurs x g) false o),
  )

  answers : OptionZip (OptionZip (RenamedSubst (Inverse related.0 related.1))) (builtin g) (builtin f)
  answers =
      subst (λ u. OptionZip (OptionZip (RenamedSubst (Inverse related.0 related.1))) (builtin g) (builtin u)) (sym first)
      (Renamed-builtin (Inverse related.0 related.1) (IsOneToOne-Inverse related.0 related.1) g (instance own.0 g) related.2)

  ordinary : builtin g ≡ None → builtin f ≡ None
  ordinary e = go (builtin f) (subst (λ o. OptionZip (OptionZip (RenamedSubst (Inverse related.0 related.1))) o (builtin f)) e answers)
    where
      go : (o : Option (Option Subst)) → OptionZip (OptionZip (RenamedSubst (Inverse related.0 related.1))) None o → o ≡ None
      go None h = refl
      go (Some a) h = absurd h

  fails : (p : Program) → builtin g ≡ Some None → children p s ≡ []
  fails p e = children-by p s f rest opens ∙ go (builtin f) (subst (λ o. OptionZip (OptionZip (RenamedSubst (Inverse related.0 related.1))) o (builtin f)) e answers)
    where
      go : (o : Option (Option Subst)) → OptionZip (OptionZip (RenamedSubst (Inverse related.0 related.1))) (Some None) o → call_children p s f rest o ≡ []
      go None h = absurd h
      go (Some None) h = refl
      go (Some (Some u)) h = absurd h

  holds : (p : Program) → builtin g ≡ Some (Some []) → IsSetOf (Behind (Inst s)) (children p s)
  holds p e = subst (IsSetOf (Behind (Inst s))) (sym (children-by p s f rest opens)) (go (builtin f) (subst (λ o. OptionZip (OptionZip (RenamedSubst (Inverse related.0 related.1))) o (builtin f)) e answers))
    where
      go : (o : Option (Option Subst)) → OptionZip (OptionZip (RenamedSubst (Inverse related.0 related.1))) (Some (Some [])) o → IsSetOf (Behind (Inst s)) (call_children p s f rest o)
      go None h = absurd h
      go (Some None) h = absurd h
      go (Some (Some [])) h = behind s f rest opens
      go (Some (Some (x ∷ u))) h = absurd h

pub builtins : BuiltinLaw
builtins = record {
  ordinary = λ s f rest g opens general e. ordinary s f rest g opens general e;
  fails = λ p s f rest g opens general e. fails s f rest g opens general p e;
  holds = λ p s f rest g opens general e. holds s f rest g opens general p e;
  equates = λ p s f rest a b opens general.
      let g : Tree = node UNIFY (more a (more b none)) in
      let k : ℕ → Tree = (own s f rest g opens general).0 in
      equated p s (instance k a) (instance k b) rest (opens ∙ ap (λ u. call u ∷ rest) (first s f rest g opens general));
  values = λ p s f rest a b z opens general e.
      let g : Tree = node IS (more a (more b none)) in
      let k : ℕ → Tree = (own s f rest g opens general).0 in
      let r = related s f rest g opens general in
      valued p s (instance k a) (instance k b) rest z (opens ∙ ap (λ u. call u ∷ rest) (first s f rest g opens general)) (sym (Renamed-eval (Inverse r.0 r.1) b (instance k b) r.2.1.1.0) ∙ e);
}
