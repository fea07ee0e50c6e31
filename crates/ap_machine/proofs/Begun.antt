-- A search that has just begun.
use Rattle.std.proofs.Common.{◌≡◌, ℕ, ◌<◌, ◌≤◌, ◌⊎◌, inl, inr, List, [], ◌∷◌, length, drop, map, replicate, Some, slice_get, refl, ap, sym, ◌∙◌, subst, arith}
use Rattle.std.proofs.lemmas.List.{length-replicate}
use Rattle.std.specs.List.{AllZip, AllByRecursion}
use Rattle.ap_term.specs.Tree.{Tree, Trees, count_trees}
use Rattle.ap_term.specs.Vars.{LocalAll}
use Rattle.ap_term.proofs.TreeLists.{count_trees-instance_all}
use Rattle.ap_term.proofs.Lists.{drop-here}
use Rattle.ap_term.specs.Substitution.{instance_all, shift}
use Rattle.ap_term.specs.Goals.{Program, Query}
use Rattle.ap_term.specs.UpToNames.{SameUpToNames}
use Rattle.ap_term.specs.Search.{variables}
use Rattle.ap_tracked.specs.Tracked.{Tracked}
use Rattle.ap_graft.specs.Starts.{tracked_start}
use Rattle.ap_cells.specs.Store.{Store}
use Rattle.ap_cells.specs.Trees.{span}
use Rattle.ap_cells.proofs.Walks.{count-span}
use Rattle.ap_instr.specs.declared.compiled.Predicate.{Predicate}
use Rattle.ap_instr.specs.Code.{Compiled}
use Rattle.ap_needs.specs.declared.widths.Widths.{Widths}
use Rattle.ap_needs.specs.Needs.{AllHaveTargets, AreWidthsOf}
use Rattle.ap_environments.specs.Kept.{Kept}
use Rattle.ap_steps.specs.Moves.{held, HoldPlaces}
use Rattle.ap_standing.specs.Machine.{Now, calling, inside}
use Rattle.ap_instr.specs.declared.instruction.Instr.TheVariants.{Builtin as BuiltinGoal}
use Rattle.ap_instr.specs.StandsFor.{IsOfBuiltin, ReadsAt, alternatives, clause_places}
use Rattle.ap_standing.specs.Holds.{IsApart, Holds}
use Rattle.ap_standing.proofs.Turns.{of-clauses}
use Rattle.ap_standing.specs.Laws.{machine}
use Rattle.ap_machine.specs.declared.state.Now.{Now as Kind}
use Rattle.ap_machine.specs.Sane.{HasBottom, Sane}
use Rattle.ap_machine.specs.LaidOut.{HoldsTuple, IsLaidOut, AreInside}
use Rattle.ap_machine.specs.View.{now_of, AreLiveAt, point_of, segment_of, machine_of, IsFor, paused_of}
use Rattle.ap_machine.specs.Started.{called, IsAtCall, IsAsked, IsQuestion, IsFirst, Started}
use Rattle.ap_machine.proofs.Sanity.{held-zeros}
use Rattle.ap_machine.proofs.Living.{live-none}
use Rattle.ap_machine.proofs.Beginnings.{holds-call, holds-goal, holds-question}
use Rattle.ap_machine.proofs.Questions.{question, question-reads}

-- registers that aren't set hold places
pub zeros-inside : (v : Store) (n : ℕ) (y : List ℕ) → HasBottom v → y ≡ replicate n 0 → HoldPlaces (length v.cells) y
zeros-inside v n y bottom zeros w = subst (λ ys. held ys w < length v.cells) (sym zeros) (let e = held-zeros n w in let l : 1 ≤ length v.cells = bottom.mark.fewer in omega arith)

pub none-inside : (v : Store) (y : List ℕ) → HasBottom v → y ≡ [] → HoldPlaces (length v.cells) y
none-inside v y bottom none = zeros-inside v 0 y bottom none

pub no-places : (n : ℕ) (ps : List ℕ) → ps ≡ [] → AllByRecursion (λ r. r < n) ps
no-places n ps none = subst (AllByRecursion (λ r. r < n)) (sym none) tt

-- what always holds of a search holds of it
pub Sane-new : (v : Store) (k : Kept) (x y roots : List ℕ) → k ≡ record { returns = []; moments = []; forks = [] } → AreInside v x y roots → Sane v k x y roots
Sane-new v k x y roots new places =
    subst (λ (u : Kept). Sane v u x y roots) (sym new)
    (record {
      x = places.registers;
      y = places.permanent;
      returns = tt;
      short = tt;
      inside = places.places;
      bottom = places.bottom;
      moments = tt;
      forks = tt;
    })

-- so many places as the tuple has terms
pub tuple-width : (us : List Tree) (base first count : ℕ) (ts : Trees) → span us first count ≡ instance_all (shift base) ts → count ≡ count_trees ts
tuple-width us base first count ts e = sym (count-span us first count) ∙ ap count_trees e ∙ count_trees-instance_all (shift base) ts

-- a predicate of clauses isn't a built-in goal's: no program's clauses would read as its code
no-goal : (code : Compiled) (q : Predicate) → IsOfBuiltin code q → IsApart q → ⊥
no-goal code q goal apart =
    let reads = (of-clauses code [] q (inr goal) apart).reads in
    let e : clause_places code q ≡ q.start ∷ [] = ap (alternatives q.start) (drop-here code.instructions q.start (BuiltinGoal goal.goal) goal.first) in
    subst (λ ls. AllZip (ReadsAt code) ls []) e reads

module _ (code : Compiled) (v : Store) (k : Kept) (x y roots : List ℕ) (next : Kind) (number : ℕ) (ts : Trees)
    (new : k ≡ record { returns = []; moments = []; forks = [] }) (t : HoldsTuple v ts x roots) (q : Predicate) (known : slice_get code.predicates number ≡ Some q) (arity : q.arity ≡ count_trees ts)
    (step : IsFirst code number (now_of next)) where
  stands : (now : Now) (ss : List Tracked) → now_of next ≡ now → Holds code (machine v.cells x y [] roots [] now) ss → Holds code (machine_of v k x y roots next) ss
  stands now ss e h =
      subst (λ (u : Kept). Holds code (machine_of v u x y roots next) ss) (sym new)
      (subst (λ (n : Now). Holds code (machine v.cells x y [] roots [] n) ss) (sym e) h)

  at-call : (IsQuestion code number → ⊥) → IsAtCall code number ts (machine_of v k x y roots next)
  at-call other = record {
    points = ap (λ (u : Kept). map (point_of v) u.moments) new;
    holds = λ r n is kind below. holds r n is kind below;
  }
    where
      same : (r : Predicate) → slice_get code.predicates number ≡ Some r → t.count ≡ r.arity
      same r is = let e : Some q ≡ Some r = sym known ∙ is in let s : q ≡ r = cc in t.width ∙ sym arity ∙ ap (λ (u : Predicate). u.arity) s

      holds : (r : Predicate) (n : ℕ) → slice_get code.predicates number ≡ Some r → IsApart r ⊎ IsOfBuiltin code r → LocalAll (λ w. w < n) ts → Holds code (machine_of v k x y roots next) (called r.name ts n ∷ [])
      holds r n is (inl apart) below =
          stands (calling number) (called r.name ts n ∷ []) (step.calls other (λ p e b. no-goal code p b (subst IsApart (let d : Some r ≡ Some p = sym is ∙ e in let s : r ≡ p = cc in s) apart)))
          (holds-call code v.cells t.base t.first t.count ts x y roots t.within t.tuple t.args t.len t.each number r is (same r is) n apart below)
      holds r n is (inr goal) below =
          stands (inside r.start) (called r.name ts n ∷ []) (step.solves other r is goal)
          (holds-goal code v.cells t.base t.first t.count ts x y roots t.within t.tuple t.args t.len t.each number r is (same r is) n goal below)

  asked : code.query ≡ Some number → (p : Program) (u : Query) → IsAsked code p u → SameUpToNames ts (variables u.question.vars) → Holds code (machine_of v k x y roots next) (tracked_start u ∷ [])
  asked e p u is same =
      let a = question code p u is number e in
      stands (inside a.3) (tracked_start u ∷ []) (step.asks a)
      (holds-question code v.cells t.base t.first t.count ts x y roots t.within t.tuple t.args t.len t.each t.width a.3 u (question-reads code p u is number e) same is.is_query)

  pub started : (rest : ℕ) → IsFor code (paused_of v k x y roots next 0 rest)
      → Started code ts number rest (paused_of v k x y roots next 0 rest)
  started rest for = record {
    is_for = for;
    spent = refl;
    budget = refl;
    roots = t.len ∙ t.width;
    older = ap (λ (u : Kept). map (segment_of v) u.forks) new;
    calls = at-call;
    asks = asked;
  }

-- a search whose tuple is laid out as widely as the code asks for has begun
pub started-laid : (code : Compiled) (v : Store) (k : Kept) (x y roots : List ℕ) (next : Kind) (number : ℕ) (ts : Trees) (rest : ℕ) (w : Widths) → k ≡ record { returns = []; moments = []; forks = [] } → AreWidthsOf code w → IsLaidOut ts w v x y roots
    → (q : Predicate) → slice_get code.predicates number ≡ Some q → q.arity ≡ count_trees ts → IsFirst code number (now_of next) → Started code ts number rest (paused_of v k x y roots next 0 rest)
started-laid code v k x y roots next number ts rest w new needs laid q known arity step =
    let y_len : length y ≡ w.y = ap length laid.unset ∙ length-replicate w.y 0 in
    started code v k x y roots next number ts new laid.tuple q known arity step rest
    (record {
      targets = λ at.
          subst (λ n. AllHaveTargets (drop at code.instructions) n (length y)) (sym laid.count)
          (subst (λ n. AllHaveTargets (drop at code.instructions) w.x n) (sym y_len) (needs.targets at));
      arities = λ n r is. subst (λ m. r.arity < m) (sym laid.count) (needs.arities n r is);
      live = live-none code (machine_of v k x y roots next) (ap (λ (u : Kept). map (point_of v) u.moments) new);
      older = subst (AllByRecursion (AreLiveAt code)) (sym (ap (λ (u : Kept). map (segment_of v) u.forks) new)) tt;
    })
