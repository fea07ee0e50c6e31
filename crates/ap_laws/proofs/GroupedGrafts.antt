-- Grafts on states with groups, and fitting under other names.
use Rattle.std.proofs.Common.{◌≡◌, ℕ, ◌+◌, ◌-◌, ◌<◌, ◌≤◌, List, [], ◌∷◌, map, Option, Some, None, refl, ap, sym, ◌∙◌, subst, arith}
use Rattle.ap_term.specs.Tree.{Tree, Trees, var, int, atom, node, none, more, append_trees}
use Rattle.ap_term.specs.Substitution.{instance_all, Subst}
use Rattle.ap_term.specs.Goals.{Part, call, group, instance_part, calls, opened, plain_goals}
use Rattle.ap_term.specs.declared.faults.Fault.{Fault}
use Rattle.ap_term.specs.Search.{State}
use Rattle.ap_term.specs.Vars.{Local, LocalAll}
use Rattle.ap_term.proofs.Locals.{LocalAll-instance_all}
use Rattle.ap_term.proofs.GoalLists.{plain_goals-instance, plain_goals-calls_append, plain_goals-opened}
use Rattle.ap_laws.specs.Renaming.{Renamed, RenamedAll, RenamedSubst, Linked, LocalPart, LocalParts, IsBelow}
use Rattle.ap_laws.specs.Plain.{Plain, state, faulted, plain_by, plain_of, AreGroups}
use Rattle.ap_laws.specs.Graft.{fit, fit_all, lifted, lifted_var, fitted, graft, graft_by, IsOwn, IsOf}
use Rattle.ap_laws.specs.Laws.{FittingLaw}
use Rattle.ap_laws.specs.SearchLaws.{GraftStateLaw}
use Rattle.ap_term.proofs.Zips.{AllByRecursion-append}
use Rattle.ap_laws.proofs.Local.{LocalParts-instance_part, LocalParts-opened, LocalAll-calls}
use Rattle.ap_laws.proofs.Graft.{state-eq, Linked-lifted}
use Rattle.ap_laws.proofs.Dead.{Local-fitted}
use Rattle.ap_laws.proofs.Views.{plain_by-None, AreGroups-append, AreGroups-calls, AreGroups-instance, AreGroups-opened, StartsWithCall, StartsWithCall-opened}

-- ---- fitting

mutual
  RenamedSubst-fit : (R : ℕ → ℕ → Type 0) (t u v w : Tree) (s r : Subst) → Renamed R t u → Renamed R v w → RenamedSubst R s r → RenamedSubst R (fit t v s) (fit u w r)
  RenamedSubst-fit R (var x) (var y) v w s r h k l = ((h, k), l)
  RenamedSubst-fit R (int x) (int y) v w s r h k l = l
  RenamedSubst-fit R (atom x) (atom y) v w s r h k l = l
  RenamedSubst-fit R (node a ts) (node b us) (node c vs) (node d ws) s r h k l = RenamedSubst-fit_all R ts us vs ws s r h.1 k.1 l
  RenamedSubst-fit R (node a ts) (node b us) (var _) (var _) s r h k l = l
  RenamedSubst-fit R (node a ts) (node b us) (int _) (int _) s r h k l = l
  RenamedSubst-fit R (node a ts) (node b us) (atom _) (atom _) s r h k l = l
  RenamedSubst-fit R (var _) (int _) _ _ _ _ h k l = absurd h
  RenamedSubst-fit R (var _) (atom _) _ _ _ _ h k l = absurd h
  RenamedSubst-fit R (var _) (node _ _) _ _ _ _ h k l = absurd h
  RenamedSubst-fit R (int _) (var _) _ _ _ _ h k l = absurd h
  RenamedSubst-fit R (int _) (atom _) _ _ _ _ h k l = absurd h
  RenamedSubst-fit R (int _) (node _ _) _ _ _ _ h k l = absurd h
  RenamedSubst-fit R (atom _) (var _) _ _ _ _ h k l = absurd h
  RenamedSubst-fit R (atom _) (int _) _ _ _ _ h k l = absurd h
  RenamedSubst-fit R (atom _) (node _ _) _ _ _ _ h k l = absurd h
  RenamedSubst-fit R (node _ _) (var _) _ _ _ _ h k l = absurd h
  RenamedSubst-fit R (node _ _) (int _) _ _ _ _ h k l = absurd h
  RenamedSubst-fit R (node _ _) (atom _) _ _ _ _ h k l = absurd h
  RenamedSubst-fit R _ _ _ _ _ _ h k l = absurd k

  pub RenamedSubst-fit_all : (R : ℕ → ℕ → Type 0) (ts us vs ws : Trees) (s r : Subst) → RenamedAll R ts us → RenamedAll R vs ws → RenamedSubst R s r → RenamedSubst R (fit_all ts vs s) (fit_all us ws r)
  RenamedSubst-fit_all R none none vs ws s r h k l = l
  RenamedSubst-fit_all R (more t ts) (more u us) none none s r h k l = l
  RenamedSubst-fit_all R (more t ts) (more u us) (more v vs) (more w ws) s r h k l =
      RenamedSubst-fit R t u v w (fit_all ts vs s) (fit_all us ws r) h.0 k.0 (RenamedSubst-fit_all R ts us vs ws s r h.1 k.1 l)
  RenamedSubst-fit_all R none (more _ _) _ _ _ _ h k l = absurd h
  RenamedSubst-fit_all R (more _ _) none _ _ _ _ h k l = absurd h
  RenamedSubst-fit_all R _ _ _ _ _ _ h k l = absurd k

pub fitting : FittingLaw
fitting f g n m ts us vs ws h k = RenamedSubst-fit_all (Linked f g n m) ts us vs ws [] [] h k tt

-- ---- grafts

plain_of-graft_by : (b : ℕ) (s : State) (ps : List Part) (u : Plain) → StartsWithCall ps → plain_goals ps ≡ plain_goals s.goals → plain_of (graft_by b s ps u) ≡ graft b (plain_by s.fault (plain_goals ps) s.tuple s.next s.steps) u
plain_of-graft_by b s [] u h e = ap (λ G. plain_by s.fault G s.tuple s.next s.steps) (sym e) ∙ go s.fault
  where
    go : (f : Option Fault) → plain_by f none s.tuple s.next s.steps ≡ graft b (plain_by f none s.tuple s.next s.steps) u
    go None = refl
    go (Some i) = refl
plain_of-graft_by b s (call g ∷ rest) (faulted i j) h e = refl
plain_of-graft_by b s (group cs ts ∷ rest) u h e = absurd h
plain_of-graft_by b s (call g ∷ rest) (state G U m j) h e =
    plain_by-None _ _ _ _
    ∙ state-eq
    (plain_goals-calls_append (instance_all (lifted_var b s.next) G) (map (instance_part (fitted g b s.next U)) rest)
    ∙ ap (append_trees (instance_all (lifted_var b s.next) G)) (plain_goals-instance (fitted g b s.next U) rest)) refl refl refl

AreGroups-graft_by : (b : ℕ) (s : State) (ps : List Part) (u : Plain) → AreGroups s.goals → AreGroups ps → AreGroups (graft_by b s ps u).goals
AreGroups-graft_by b s [] u h k = h
AreGroups-graft_by b s (group cs ts ∷ rest) u h k = h
AreGroups-graft_by b s (call g ∷ rest) (faulted i j) h k = tt
AreGroups-graft_by b s (call g ∷ rest) (state G U m j) h k =
    AreGroups-append (calls (instance_all (lifted_var b s.next) G)) (map (instance_part (fitted g b s.next U)) rest) (AreGroups-calls (instance_all (lifted_var b s.next) G))
    (AreGroups-instance (fitted g b s.next U) rest k)

IsBelow-graft_by : (b : ℕ) (s : State) (g : Tree) (rest : List Part) (u : Plain) → b ≤ s.next → LocalParts (λ x. x < s.next) (call g ∷ rest) → LocalAll (λ x. x < s.next) s.tuple → IsOf g b u
    → IsBelow (graft_by b s (call g ∷ rest) u)
IsBelow-graft_by b s g rest (faulted i j) bn h hT o = (tt, hT)
IsBelow-graft_by b s g rest (state G U m j) bn h hT o = (
  AllByRecursion-append (LocalPart (λ x. x < n)) (calls (instance_all (lifted_var b s.next) G)) (map (instance_part (fitted g b s.next U)) rest)
      (LocalAll-calls (λ x. x < n) (instance_all (lifted_var b s.next) G) (LocalAll-instance_all (IsOwn g b m) (λ x. x < n) (lifted_var b s.next) moved G o.2))
      (LocalParts-instance_part (λ x. x < s.next) (λ x. x < n) (fitted g b s.next U) stays rest h.1),
  LocalAll-instance_all (λ x. x < s.next) (λ x. x < n) (fitted g b s.next U) stays s.tuple hT,
)
  where
    n : ℕ
    n = s.next + (m - b)

    moved : (x : ℕ) → IsOwn g b m x → lifted b s.next x < n
    moved x p = (Linked-lifted b s.next m n bn o.4 refl x p.0).3

    stays : (x : ℕ) → x < s.next → Local (λ y. y < n) (fitted g b s.next U x)
    stays = Local-fitted (λ y. y < n) (λ y. y < s.next) g b s.next m o.0 U o.1 o.3 moved (λ x l p. omega arith)

pub grafted_state : GraftStateLaw
grafted_state = (
  λ b s u.
      plain_of-graft_by b s (opened s.goals) u (StartsWithCall-opened s.goals) (plain_goals-opened s.goals)
      ∙ ap (λ G. graft b (plain_by s.fault G s.tuple s.next s.steps) u) (plain_goals-opened s.goals),
  λ b s u h. AreGroups-graft_by b s (opened s.goals) u h (AreGroups-opened s.goals h),
  λ b s g rest u e bn h o.
      subst (λ ps. IsBelow (graft_by b s ps u)) (sym e)
      (IsBelow-graft_by b s g rest u bn (subst (LocalParts (λ x. x < s.next)) e (LocalParts-opened (λ x. x < s.next) s.goals h.0)) h.1 o),
)
