-- The goals of a fork, from which sections of slots begin.
use Rattle.std.proofs.Common.{◌≡◌, ℕ, zero, suc, ◌<◌, inl, inr, List, [], ◌∷◌, Some, refl, ap, ap₂, sym, ◌∙◌, subst, arith}
use Rattle.std.proofs.lemmas.Option.{none-some, same_Some}
use Rattle.std.specs.Prelude.{length, slice_get}
use Rattle.std.specs.List.{AllByRecursion}
use Rattle.ap_term.specs.Tuples.{tuple_under, arguments}
use Rattle.ap_term.proofs.TreeLists.{LocalAll-arguments}
use Rattle.ap_term.proofs.TreeLists.{arguments-applied}
use Rattle.ap_term.specs.declared.clauses.Check.{Check}
use Rattle.ap_term.specs.Tree.{Tree, Trees, var, none, more, append_trees}
use Rattle.ap_term.specs.Substitution.{instance, instance_all}
use Rattle.ap_term.specs.UpToNames.{renumbered}
use Rattle.ap_term.specs.Vars.{Local, LocalAll}
use Rattle.ap_term.proofs.Copies.{instance_all_var}
use Rattle.ap_term.proofs.Locals.{Local-occurs}
use Rattle.ap_cells.specs.Trees.{tree_at, trees}
use Rattle.ap_match.specs.Fits.{Fits}
use Rattle.ap_match.proofs.Maps.{fits-own}
use Rattle.ap_core.specs.Relation.{Rules}
use Rattle.ap_tracked.specs.Tracked.{fork, Tracked, opened}
use Rattle.ap_tracked.specs.Marks.{marked}
use Rattle.ap_tracked.specs.Forks.{Fork, alone, IsGoalOf, IsUnused, ComesFirst}
use Rattle.ap_tracked.specs.Kept.{IsKept}
use Rattle.ap_tracked.specs.Safe.{IsSafe}
use Rattle.ap_tracked.proofs.Safe.{safe}
use Rattle.ap_tracked.proofs.Kept.{from_safe}
use Rattle.ap_graft.specs.Variables.{LocalGoal, LocalGoals, IsTrackedBelow}
use Rattle.ap_graft.proofs.Variables.{below_from, goals_local}
use Rattle.ap_instr.specs.Code.{Compiled}
use Rattle.ap_instr.specs.Runs.{applied}
use Rattle.ap_group.specs.Groups.{Pushed, Forked}
use Rattle.ap_resolution.proofs.Variants.{same-part}
use Rattle.ap_standing.proofs.Moved.{some-waits}
use Rattle.ap_tie.specs.Forked.{goal_by, goals_under, IsForked}
use Rattle.ap_tie.proofs.Rejoined.{opened-marks}
use Rattle.ap_tied.specs.Ties.{IsKnownGoal, IsPlaced, IsSearched}
use Rattle.ap_tied.specs.SlotCalls.{IsGoalAt}
use Rattle.ap_tied.proofs.Places.{nth, nth_tree, get-nth, nth-from-one}

-- ---- lists of goals

-- a goal of an instance is the instance of a goal
goal-instance : (own : ℕ → Tree) (i : ℕ) (ts : Trees) (g : Tree) → nth_tree i (instance_all own ts) ≡ Some g → (t : Tree) × IsGoalOf t ts × (g ≡ instance own t)
goal-instance own i none g h = absurd (none-some _ h)
goal-instance own zero (more t ts) g h = absurd (none-some _ h)
goal-instance own (suc zero) (more t ts) g h = (t, inl refl, sym (same_Some _ _ h))
goal-instance own (suc (suc i)) (more t ts) g h = let r = goal-instance own (suc i) ts g h in (r.0, inr r.1, r.2)

local-nth : (P : ℕ → Type 0) (i : ℕ) (ts : Trees) (g : Tree) → LocalAll P ts → nth_tree i ts ≡ Some g → Local P g
local-nth P i none g l h = absurd (none-some _ h)
local-nth P zero (more t ts) g l h = absurd (none-some _ h)
local-nth P (suc zero) (more t ts) g l h = subst (Local P) (same_Some _ _ h) l.0
local-nth P (suc (suc i)) (more t ts) g l h = local-nth P (suc i) ts g l.1 h

nth-append : (i : ℕ) (ts us : Trees) (g : Tree) → nth_tree i ts ≡ Some g → nth_tree i (append_trees ts us) ≡ Some g
nth-append i none us g h = absurd (none-some _ h)
nth-append zero (more t ts) us g h = absurd (none-some _ h)
nth-append (suc zero) (more t ts) us g h = h
nth-append (suc (suc i)) (more t ts) us g h = nth-append (suc i) ts us g h

nth-instance : (f : ℕ → Tree) (i : ℕ) (ts : Trees) (g : Tree) → nth_tree i ts ≡ Some g → nth_tree i (instance_all f ts) ≡ Some (instance f g)
nth-instance f i none g h = absurd (none-some _ h)
nth-instance f zero (more t ts) g h = absurd (none-some _ h)
nth-instance f (suc zero) (more t ts) g h = ap (λ u. Some (instance f u)) (same_Some _ _ h)
nth-instance f (suc (suc i)) (more t ts) g h = nth-instance f (suc i) ts g h

nth-under : (code : Compiled) (k : ℕ → Tree) (i : ℕ) (ps : List Pushed) (a : Pushed) → nth i ps ≡ Some a → nth_tree i (goals_under code k ps) ≡ Some (goal_by (slice_get code.predicates a.predicate) (tuple_under k a.arguments))
nth-under code k i [] a h = absurd (none-some _ h)
nth-under code k zero (x ∷ ps) a h = absurd (none-some _ h)
nth-under code k (suc zero) (x ∷ ps) a h = ap (λ b. Some (goal_by (slice_get code.predicates b.predicate) (tuple_under k b.arguments))) (same_Some _ _ h)
nth-under code k (suc (suc i)) (x ∷ ps) a h = nth-under code k (suc i) ps a h

each-nth : {A : Type 0} (P : A → Type 0) (i : ℕ) (xs : List A) (a : A) → AllByRecursion P xs → nth i xs ≡ Some a → P a
each-nth P i [] a l h = absurd (none-some _ h)
each-nth P zero (x ∷ xs) a l h = absurd (none-some _ h)
each-nth P (suc zero) (x ∷ xs) a l h = subst P (same_Some _ _ h) l.0
each-nth P (suc (suc i)) (x ∷ xs) a l h = each-nth P (suc i) xs a l.1 h

-- ---- goals and their arguments

arguments-of : (f : ℕ → Tree) (a : ℕ) (ts : Trees) → arguments (instance f (applied a ts)) ≡ instance_all f ts
arguments-of f a none = refl
arguments-of f a (more t ts) = refl

under-instance : (n : ℕ) (k l f : ℕ → Tree) → ((i : ℕ) → i < n → k i ≡ instance f (l i)) → (rs : List ℕ) → AllByRecursion (λ r. r < n) rs → tuple_under k rs ≡ instance_all f (tuple_under l rs)
under-instance n k l f e [] h = refl
under-instance n k l f e (r ∷ rs) h = ap₂ more (e r h.0) (under-instance n k l f e rs h.1)

-- ---- a goal of the fork

module _ (code : Compiled) (p : Rules) (o : Tracked) (roots : List ℕ) (f : Forked) (s : Tracked) (j : IsForked code roots f s) (kept : IsKept p.program o s) (searched : IsSearched code p o) where
  abbrev goals : Trees
  goals = instance_all j.own j.goals

  below_s : IsTrackedBelow s
  below_s = below_from p.program o s searched.program searched.below kept.from

  fork_local : LocalGoal (λ v. v < s.next) (fork j.checks j.goals j.own j.now)
  fork_local = (subst (LocalGoals (λ v. v < s.next)) j.first below_s.0).0

  own_local : (cs : List Check) (ts : Trees) (own : ℕ → Tree) (now : List Check) → LocalGoal (λ v. v < s.next) (fork cs ts own now) → LocalAll (λ v. v < s.next) (instance_all own ts)
  own_local cs none own now h = absurd h
  own_local cs (more t ts) own now h = goals_local (λ v. v < s.next) own (more t ts) h

  module _ (i : ℕ) (g : Tree) (here : nth_tree i goals ≡ Some g) where
    pub goal_local : Local (λ v. v < s.next) g
    goal_local = local-nth (λ v. v < s.next) i goals g (own_local j.checks j.goals j.own j.now fork_local) here

    -- its search alone is one of the code's program
    pub goal_searched : IsSearched code p (alone g s.next)
    goal_searched =
        let e : Fork = record { checks = j.checks; goals = j.goals; own = j.own } in
        let comes : ComesFirst e s.goals = subst (ComesFirst e) (sym j.first) refl in
        let t = goal-instance j.own i j.goals g here in
        let unused : IsUnused s.next g = λ x h. Local-occurs (λ v. v < s.next) g goal_local x h in
        let from : IsSafe p.program s = from_safe p.program o s searched.safe kept.from in
        record {
          program = searched.program;
          code_stands = searched.code_stands;
          safe = subst (λ k. IsSafe p.program (alone k s.next)) (sym t.2) (safe.goals p.program s e t.0 s.next from comes t.1 (subst (IsUnused s.next) t.2 unused));
          below = ((goal_local, tt), LocalAll-arguments (λ v. v < s.next) g goal_local, omega arith, tt);
          quiet = searched.quiet;
        }

    marks_are : marked (opened s.goals) ≡ append_trees goals (marked j.behind)
    marks_are = ap (λ gs. marked (opened gs)) j.first ∙ opened-marks (λ v. v < s.next) j.checks j.goals j.own j.now j.behind fork_local

    module _ (placed : IsPlaced code roots f) (a : Pushed) (pushed : nth i f.goals ≡ Some a) where
      known : IsKnownGoal code a
      known = each-nth (IsKnownGoal code) i f.goals a placed.known pushed

      abbrev cells : ℕ → Tree
      cells = tree_at (trees f.cells)

      goal_under : (k : ℕ → Tree) (xs : Trees) → nth_tree i (append_trees (goals_under code k f.goals) xs) ≡ Some (applied known.0.name (tuple_under k a.arguments))
      goal_under k xs =
          nth-append i (goals_under code k f.goals) xs (goal_by (slice_get code.predicates a.predicate) (tuple_under k a.arguments)) (nth-under code k i f.goals a pushed)
          ∙ ap (λ q. Some (goal_by q (tuple_under k a.arguments))) known.1

      goal_of : (h : ℕ → Tree) → nth_tree i (instance_all h (marked (opened s.goals))) ≡ Some (instance h g)
      goal_of h = nth-instance h i (marked (opened s.goals)) g (ap (nth_tree i) marks_are ∙ nth-append i goals (marked j.behind) g here)

      -- some map that fits the cells gives the goal
      fitting : (k : ℕ → Tree) × Fits f.cells k × (g ≡ applied known.0.name (tuple_under k a.arguments))
      fitting =
          let m = (j.same (marked (opened s.goals)) s.tuple).1 (var, sym (instance_all_var (marked (opened s.goals))), sym (instance_all_var s.tuple)) in
          (m.0, m.2, same_Some _ _ (sym (ap (nth_tree i) marks_are ∙ nth-append i goals (marked j.behind) g here) ∙ ap (nth_tree i) m.4 ∙ goal_under m.0 m.1))

      -- the cells' own trees are an instance of it
      general : (h : ℕ → Tree) × (applied known.0.name (tuple_under cells a.arguments) ≡ instance h g)
      general =
          let w = some-waits code cells f.returns roots j.open_returns in
          let m = (j.same (append_trees (goals_under code cells f.goals) w.0) w.1).0 (cells, w.0, fits-own f.cells, w.2, refl) in
          (m.0, same_Some _ _ (sym (goal_under cells w.0) ∙ ap (nth_tree i) m.1 ∙ goal_of m.0))

      arguments_are : arguments g ≡ tuple_under fitting.0 a.arguments
      arguments_are = ap arguments fitting.2 ∙ arguments-applied known.0.name (tuple_under fitting.0 a.arguments)

      named : g ≡ applied known.0.name (arguments g)
      named = fitting.2 ∙ ap (applied known.0.name) (sym arguments_are)

      there : tuple_under cells a.arguments ≡ instance_all general.0 (arguments g)
      there =
          sym (arguments-applied known.0.name (tuple_under cells a.arguments)) ∙ ap arguments general.1 ∙ ap (λ u. arguments (instance general.0 u)) named
          ∙ arguments-of general.0 known.0.name (arguments g)

      back : arguments g ≡ instance_all fitting.1.0 (tuple_under cells a.arguments)
      back =
          arguments_are
          ∙ under-instance (length f.cells) fitting.0 cells fitting.1.0 fitting.1.1 a.arguments (each-nth (λ x. AllByRecursion (λ r. r < length f.cells) x.arguments) i f.goals a placed.arguments pushed)

      -- the goal that was pushed is that one
      pub goal_at : IsGoalAt code f i g s.next
      goal_at = record {
        goal = a;
        predicate = known.0;
        place = get-nth i f.goals (nth-from-one i f.goals a pushed) ∙ pushed;
        known = known.1;
        named = named;
        same = ap renumbered there ∙ same-part general.0 fitting.1.0 (arguments g) (tuple_under cells a.arguments) there back (arguments g) (λ x e. e);
        below = goal_local;
      }
