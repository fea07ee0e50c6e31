-- Lists of events rejoin the search.
use Rattle.std.proofs.Common.{ℕ, ◌+◌, ◌<◌, List, [], ◌∷◌, ◌++◌, Option, Some, None, sym, subst, arith, append-nil}
use Rattle.ap_term.specs.declared.faults.Fault.{Fault}
use Rattle.ap_term.specs.Search.{State}
use Rattle.ap_term.specs.Tree.{Tree, Trees, var, node, none, more}
use Rattle.ap_term.proofs.Copies.{instance_all_var}
use Rattle.ap_term.specs.Vars.{LocalAll}
use Rattle.ap_term.specs.Goals.{plain_goals}
use Rattle.ap_term.proofs.Locals.{LocalAll-weaken}
use Rattle.ap_laws.specs.Renaming.{IsBelow}
use Rattle.ap_laws.specs.Plain.{Plain, state, Ways, IsAnswer, plain_by, plain_of, Renames, Locals}
use Rattle.ap_laws.proofs.Plain.{LocalAll-plain_goals}
use Rattle.ap_term.proofs.Zips.{AllByRecursion-append}
use Rattle.ap_laws.specs.Graft.{IsOwn, IsOf}
use Rattle.std.specs.List.{AllByRecursion}
use Rattle.ap_laws.specs.Gives.{Gives, Rejoins}
use Rattle.ap_laws.specs.Tasks.{Task, task, exhausted, plain, flat_task, flat_alternatives, left}
use Rattle.ap_laws.specs.Events.{Runs, none_yet, and_then, emits}
use Rattle.ap_laws.proofs.Invariant.{base, cost, cost_alternatives, TaskInvariant}
use Rattle.ap_laws.proofs.Gives.{Gives-then, Gives-none, Gives-less, Gives-answer}
use Rattle.ap_laws.proofs.Flat.{Gives-flat_task}
use Rattle.ap_laws.proofs.Events.{base_alternatives-IsQuiet, cost_alternatives-IsQuiet, Effect-Step}

-- the query stands for a goal whose arguments are its tuple
pub IsOf-query : (G T : Trees) (n k : ℕ) → LocalAll (λ x. x < n) G → LocalAll (λ x. x < n) T → IsOf (node 0 T) 0 (state G T n k)
IsOf-query G T n k h j = (var, sym (instance_all_var T), own G h, own T j, omega arith)
  where
    own : (ts : Trees) → LocalAll (λ x. x < n) ts → LocalAll (IsOwn (node 0 T) 0 n) ts
    own ts q = LocalAll-weaken (λ x. x < n) (IsOwn (node 0 T) 0 n) (λ x l. (l, λ z. absurd (omega arith))) ts q

pub IsOf-plain_of : (q : State) → IsBelow q → IsOf (node 0 q.tuple) 0 (plain_of q)
IsOf-plain_of q below = go q.fault (plain_goals q.goals) (LocalAll-plain_goals (λ x. x < q.next) q.goals below.0)
  where
    go : (f : Option Fault) (G : Trees) → LocalAll (λ x. x < q.next) G → IsOf (node 0 q.tuple) 0 (plain_by f G q.tuple q.next q.steps)
    go f (more g G) h = IsOf-query (more g G) q.tuple q.next q.steps h below.1
    go None none h = IsOf-query none q.tuple q.next q.steps h below.1
    go (Some e) none h = tt

module _ (A : Ways) (renames : Renames A) (locals : Locals A) where
  pub Rejoins-base : (h : Tree) (z : ℕ) (s : Plain) → IsOf h z s → {m : List Plain} {t : Task} → Runs A (task 0 (plain s exhausted)) m t
      → TaskInvariant A h z t × Rejoins A s m (base t) (cost t)
  Rejoins-base h z s o none_yet = ((o, tt, tt), Gives-none A (s ∷ []))
  Rejoins-base h z s o (and_then {m = m} {u = u} {v = v} r e) =
      let q = Rejoins-base h z s o r in
      let e = Effect-Step A renames locals e h z q.0 in (
        e.0,
        Gives-less A (s ∷ []) m (base v) (cost u + e.1.0) (cost v) e.1.2
            (subst (λ x. Gives A (s ∷ []) x (base v) (cost u + e.1.0)) (append-nil m)
            (Gives-then A (s ∷ []) m (base u) [] (base v) (cost u) e.1.0 q.1 e.1.1)),
      )
  Rejoins-base h z s o (emits {m = m} {c = c} {T = T'} {n = n'} {k = k'} {l = l} r) =
      let q = Rejoins-base h z s o r in (
        q.0.2,
        subst (λ x. Gives A (s ∷ []) (m ++ (state none T' n' k' ∷ [])) x (c + cost_alternatives l)) (sym (base_alternatives-IsQuiet l q.0.1))
            (Gives-less A (s ∷ []) (m ++ (state none T' n' k' ∷ [])) (flat_alternatives l) ((c + 0) + 0) (c + cost_alternatives l) (omega (arith, cost_alternatives-IsQuiet l q.0.1))
            (Gives-then A (s ∷ []) m (state none T' n' k' ∷ flat_alternatives l) (state none T' n' k' ∷ []) (flat_alternatives l) (c + 0) 0 q.1 (Gives-answer A T' n' k' (flat_alternatives l)))),
      )

  pub Rejoins-Runs : (h : Tree) (z : ℕ) (s : Plain) → IsOf h z s → {m : List Plain} {t : Task} → Runs A (task 0 (plain s exhausted)) m t
      → Rejoins A s m (flat_task t) (left t)
  Rejoins-Runs h z s o {m = m} {t = t} r =
      let q = Rejoins-base h z s o r in
      let e = Gives-flat_task A renames locals t h z q.0 in
      Gives-less A (s ∷ []) m (flat_task t) (cost t + e.0) (left t) e.2
      (subst (λ x. Gives A (s ∷ []) x (flat_task t) (cost t + e.0)) (append-nil m)
      (Gives-then A (s ∷ []) m (base t) [] (flat_task t) (cost t) e.0 q.1 e.1))

-- what is emitted are answers
pub AreAnswers-Runs : (A : Ways) {t u : Task} {m : List Plain} → Runs A t m u → AllByRecursion IsAnswer m
AreAnswers-Runs A none_yet = tt
AreAnswers-Runs A (and_then r e) = AreAnswers-Runs A r
AreAnswers-Runs A (emits {m = m} {T = T} {n = n} {k = k} r) = AllByRecursion-append IsAnswer m (state none T n k ∷ []) (AreAnswers-Runs A r) (tt, tt)
