-- A goal without answers leaves a conjunction none.
use Rattle.std.proofs.Common.{◌≡◌, ℕ, ◌+◌, ◌-◌, ◌<◌, ◌≤◌, Bool, true, false, cond, List, [], ◌∷◌, refl, ap, sym, ◌∙◌, subst, arith}
use Rattle.std.proofs.lemmas.Bool.{false≢true, false_from_ne_true}
use Rattle.ap_term.specs.Tuples.{arguments}
use Rattle.ap_term.specs.Tree.{Tree, Trees, var, int, atom, node, more}
use Rattle.ap_term.specs.Vars.{occurs, occurs_all, Local, LocalAll}
use Rattle.ap_term.specs.Substitution.{instance, instance_all}
use Rattle.ap_term.proofs.Copies.{instance_var}
use Rattle.ap_term.proofs.Locals.{Local-each, Local-occurs, Local-instance, LocalAll-instance_all, instance-Local, LocalAll-append_trees}
use Rattle.ap_laws.specs.Plain.{Plain, state, faulted, Ways, Renames, Locals, IsPlainBelow}
use Rattle.ap_laws.specs.Trace.{Action, called, cut, answered, trace, followed, AllAnswers, NoAnswers}
use Rattle.ap_laws.specs.Graft.{alone, lifted, lifted_var, fitted, graft, IsOwn, IsOf}
use Rattle.ap_laws.proofs.Graft.{LocalAll-at, Linked-lifted, fitted-value, trace-graft, IsOf-alone, graft-alone}
use Rattle.ap_laws.proofs.Traces.{AllAnswers-append}

-- what the variables of the rest become
pub Local-fitted : (P Q : ℕ → Type 0) (g : Tree) (b n m : ℕ) (f : ℕ → Tree) (U : Trees) → U ≡ instance_all f (arguments g) → LocalAll (IsOwn g b m) U
    → ((y : ℕ) → IsOwn g b m y → P (lifted b n y)) → ((x : ℕ) → Q x → occurs_all x (arguments g) ≡ false → P x)
    → (x : ℕ) → Q x → Local P (fitted g b n U x)
Local-fitted P Q g b n m f U e h moved old x q = subst (Local P) (sym (fitted-value g b n f U e x)) (go (occurs_all x (arguments g)) refl)
  where
    go : (c : Bool) → occurs_all x (arguments g) ≡ c → Local P (cond c (instance (lifted_var b n) (f x)) (var x))
    go true p = Local-instance (IsOwn g b m) P (lifted_var b n) moved (f x) (LocalAll-at (IsOwn g b m) f (arguments g) (subst (LocalAll (IsOwn g b m)) e h) x p)
    go false p = old x q p

-- a tree without the goal's variables stays
pub instance-fitted_apart : (g : Tree) (b n : ℕ) (f : ℕ → Tree) (U : Trees) → U ≡ instance_all f (arguments g) → (t : Tree) → Local (λ x. occurs_all x (arguments g) ≡ false) t
    → instance (fitted g b n U) t ≡ t
instance-fitted_apart g b n f U e t h =
    instance-Local (λ x. occurs_all x (arguments g) ≡ false) (fitted g b n U) var
    (λ x p. fitted-value g b n f U e x ∙ ap (λ c. cond c (instance (lifted_var b n) (f x)) (var x)) p) t h
    ∙ instance_var t

pub IsPlainBelow-graft : (g : Tree) (K T : Trees) (b n k : ℕ) → b ≤ n → IsPlainBelow (state (more g K) T n k) → (a : Plain) → IsOf g b a → IsPlainBelow (graft b (state (more g K) T n k) a)
IsPlainBelow-graft g K T b n k bn h (faulted e j) o = tt
IsPlainBelow-graft g K T b n k bn h (state G U m j) o = (
  LocalAll-append_trees (λ x. x < n + (m - b)) (instance_all (lifted_var b n) G) (instance_all (fitted g b n U) K) (LocalAll-instance_all (IsOwn g b m) (λ x. x < n + (m - b)) (lifted_var b n) moved G o.2) (rest K h.0.1),
  rest T h.1,
)
  where
    moved : (x : ℕ) → IsOwn g b m x → lifted b n x < n + (m - b)
    moved x p = (Linked-lifted b n m (n + (m - b)) bn o.4 refl x p.0).3

    rest : (ts : Trees) → LocalAll (λ x. x < n) ts → LocalAll (λ x. x < n + (m - b)) (instance_all (fitted g b n U) ts)
    rest ts hs = LocalAll-instance_all (λ x. x < n) (λ x. x < n + (m - b)) (fitted g b n U)
        (Local-fitted (λ x. x < n + (m - b)) (λ x. x < n) g b n m o.0 U o.1 o.3 moved (λ x l p. omega arith)) ts hs

pub NoAnswers-followed : (es : List Action) (k : Plain → ℕ → List Action) → AllAnswers (λ a l. NoAnswers (k a l)) es → NoAnswers (followed es k)
NoAnswers-followed [] k h = tt
NoAnswers-followed (called ∷ es) k h = NoAnswers-followed es k h
NoAnswers-followed (cut ∷ es) k h = NoAnswers-followed es k h
NoAnswers-followed (answered a l ∷ es) k h = AllAnswers-append (λ a l. ⊥) (k a l) (followed es k) h.0 (NoAnswers-followed es k h.1)

pub AllAnswers-weaken : (P Q : Plain → ℕ → Type 0) → ((a : Plain) (l : ℕ) → P a l → Q a l) → (es : List Action) → AllAnswers P es → AllAnswers Q es
AllAnswers-weaken P Q e [] h = tt
AllAnswers-weaken P Q e (called ∷ es) h = AllAnswers-weaken P Q e es h
AllAnswers-weaken P Q e (cut ∷ es) h = AllAnswers-weaken P Q e es h
AllAnswers-weaken P Q e (answered a l ∷ es) h = (e a l h.0, AllAnswers-weaken P Q e es h.1)

pub Local-apart : (p g : Tree) → Local (λ x. occurs x g ≡ false) p → Local (λ x. occurs x p ≡ false) g
Local-apart p g h =
    Local-each (λ x. occurs x p ≡ false) g (λ x o. false_from_ne_true (occurs x p) (λ k. false≢true (sym (Local-occurs (λ y. occurs y g ≡ false) p h x k) ∙ o)))

pub occurs_all-arguments : (x : ℕ) (g : Tree) → occurs x g ≡ false → occurs_all x (arguments g) ≡ false
occurs_all-arguments x (var y) e = simp e
occurs_all-arguments x (int i) e = refl
occurs_all-arguments x (atom i) e = refl
occurs_all-arguments x (node f ts) e = e

module _ (A : Ways) (renames : Renames A) (locals : Locals A) where
  -- the search of a state is that of its first goal alone, with the rest grafted on each answer
  pub trace-split : (g : Tree) (K T : Trees) (b n k r : ℕ) → b ≤ n → IsPlainBelow (state (more g K) T n k) → Local (λ x. x < b) g
      → trace A r (state (more g K) T n k) ≡ followed (trace A r (alone g b)) (λ a l. trace A l (graft b (state (more g K) T n k) a))
  trace-split g K T b n k r bn h hb =
      ap (trace A r) (sym (graft-alone g K T b n k hb)) ∙ trace-graft A renames locals g K T b n k bn h.0.1 h.1 r (alone g b) (IsOf-alone g b hb)
