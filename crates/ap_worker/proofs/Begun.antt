-- The search of a goal that was taken, where it begins.
use Rattle.std.proofs.Common.{◌≡◌, ℕ, suc, ◌+◌, ◌<◌, [], ◌∷◌, Some, None, refl, ap, sym, subst, arith}
use Rattle.std.specs.Prelude.{Option}
use Rattle.ap_term.specs.Tree.{Tree, Trees, var, int, atom, node, none, more}
use Rattle.ap_term.specs.Vars.{Local, LocalAll}
use Rattle.ap_term.proofs.Locals.{Local-weaken, LocalAll-weaken}
use Rattle.ap_core.specs.Relation.{Rules}
use Rattle.ap_tracked.specs.Forks.{alone}
use Rattle.ap_instr.specs.declared.compiled.Predicate.{Predicate}
use Rattle.ap_instr.specs.Code.{Compiled}
use Rattle.ap_standing.specs.Holds.{Holds}
use Rattle.ap_machine.specs.View.{Paused}
use Rattle.ap_machine.specs.Started.{Started}
use Rattle.ap_tied.specs.Ties.{IsSearched}
use Rattle.ap_open.specs.Away.{Key, IsGoalOf, IsSearch}
use Rattle.ap_open.specs.Sharing.{OutcomeLaw}
use Rattle.ap_section.specs.Ends.{Begins}
use Rattle.ap_section.specs.Views.{budget_in}
use Rattle.ap_section.specs.Owed.{owed}
use Rattle.ap_post.specs.declared.job.Job.{Job}
use Rattle.ap_post.specs.declared.post.Post.{Post}
use Rattle.ap_post.specs.Arities.{arity_of}
use Rattle.ap_post.specs.Jobs.{key_of}
use Rattle.ap_post.specs.Posts.{posted_in}
use Rattle.ap_stack.specs.declared.stack.Stack.{Stack}
use Rattle.ap_stack.specs.Levels.{aways_of, levels_of}
use Rattle.ap_stack.specs.Stacks.{section_in, IsGood}
use Rattle.ap_stack.proofs.Counts.{fresh-counts}
use Rattle.ap_stack.proofs.Begun.{goal-alone, kind-of}
use Rattle.ap_worker.specs.Workers.{IsTaken}

-- ---- variables

mutual
  bound-tree : (t : Tree) → (n : ℕ) × Local (λ x. x < n) t
  bound-tree (var x) = (suc x, omega arith)
  bound-tree (int z) = (0, tt)
  bound-tree (atom a) = (0, tt)
  bound-tree (node a ts) = bound-trees ts

  bound-trees : (ts : Trees) → (n : ℕ) × LocalAll (λ x. x < n) ts
  bound-trees none = (0, tt)
  bound-trees (more t ts) =
      let a = bound-tree t in
      let b = bound-trees ts in
      (a.0 + b.0, (Local-weaken (λ x. x < a.0) (λ x. x < a.0 + b.0) (λ x l. omega arith) t a.1, LocalAll-weaken (λ x. x < b.0) (λ x. x < a.0 + b.0) (λ x l. omega arith) ts b.1))

-- ---- names of variables

-- A search of a key's goal stands for that goal alone, whatever its variables are named.
pub key-holds : (code : Compiled) (key : Key) (p : Paused) → Started code key.tuple key.predicate key.rest p → (code.query ≡ Some key.predicate → ⊥)
    → (r : Rules) (g : Tree) (n : ℕ) → IsGoalOf code key g n → IsSearched code r (alone g n) → Holds code p.machine (alone g n ∷ [])
key-holds code key p started other r g n is searched =
    let bound = bound-trees key.tuple in
    let at = started.calls (λ question. other question.0) in
    goal-alone code p.machine is.predicate.name bound.0 n key.tuple g at.points is.named is.same is.below
    (at.holds is.predicate bound.0 is.known (kind-of code r is.predicate (searched.code_stands.predicates key.predicate is.predicate is.known)) bound.1)

-- a job's predicate is of that arity
pub known-arity : (found : Option Predicate) (n : ℕ) → arity_of found ≡ Some n → (q : Predicate) × (found ≡ Some q) × (q.arity ≡ n)
known-arity None n e = absurd (none-is n e)
  where
    none-is : (n : ℕ) → None ≡ Some n → ⊥
    none-is n e = cc
known-arity (Some q) n e = (q, refl, (cc))

-- a search that begins is one of its job
pub begun-taken : OutcomeLaw → (p : Post) (s : Stack) (j : Job) → s.sound.now ≡ j.sound.now → s.outer.items ≡ [] → (j.sound.now.query ≡ Some j.predicate → ⊥)
    → Begins j.sound.now j.tuple j.predicate j.rest (section_in s) → posted_in p s.frame ≡ [] → IsGood p s → IsTaken p s j
begun-taken law p s j code outer other begins clear good = record {
  counts = λ r g n is searched. fresh-counts j.rest s outer (ap budget_in begins.3) (ap owed begins.3);
  good = good;
  code = code;
  search = λ r g n is searched.
      let m = begins.0.machine in
      let search = law.begun j.sound.now r g n m j.rest searched (key-holds j.sound.now (key_of j) begins.0 begins.1 other r g n is searched) in
      subst (λ es. IsSearch j.sound.now r (alone g n) j.rest (levels_of p es) (section_in s) (aways_of (posted_in p s.frame))) (sym outer)
      (subst (λ out. IsSearch j.sound.now r (alone g n) j.rest [] (section_in s) (aways_of out)) (sym clear)
      (subst (λ v. IsSearch j.sound.now r (alone g n) j.rest [] v []) (sym begins.3) search));
}
