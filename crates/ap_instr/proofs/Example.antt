-- How groups read: code of `g(X, Y) :- indep(X, Y) => a(X) & b(Y).` reads as its clause, and the place that its check and its goals lead to
-- asks for the same without the group's marks.
use Rattle.std.proofs.Common.{◌≡◌, ℕ, true, List, [], ◌∷◌, None, refl, ap, ap₂, ◌∙◌}
use Rattle.ap_term.specs.declared.clauses.Check.TheVariants.{Indep}
use Rattle.ap_term.specs.Tree.{Tree, Trees, var, node, none, more}
use Rattle.ap_term.specs.Goals.{group, Clause}
use Rattle.ap_tracked.specs.Marks.{apart_mark, group_mark, Unmarked, past_ground, past_apart, past_group}
use Rattle.ap_instr.specs.declared.instruction.Slot.TheVariants.{Y}
use Rattle.ap_instr.specs.declared.instruction.Instr.{Instr}
use Rattle.ap_instr.specs.declared.instruction.Instr.TheVariants.{GetVariable, PutValue, Allocate, Deallocate, Call, Proceed, Jump, CheckIndep, AllocParcall, PushGoal, WaitAll}
use Rattle.ap_instr.specs.declared.compiled.Predicate.{Predicate}
use Rattle.ap_instr.specs.Code.{Compiled}
use Rattle.ap_instr.specs.Steps.{steps_from}
use Rattle.ap_instr.specs.Runs.{Runs, Asks}
use Rattle.ap_instr.specs.Groups.{AsksUnmarked}
use Rattle.ap_instr.specs.StandsFor.{ReadsAt}

abbrev instructions : List Instr
instructions =
    Allocate 2 ∷ GetVariable (Y 1) 1 ∷ GetVariable (Y 2) 2 ∷ CheckIndep (Y 1) (Y 2) 11 ∷ AllocParcall 2 11 ∷ PutValue (Y 1) 1 ∷ PushGoal 1 0 ∷ PutValue (Y 2) 1 ∷ PushGoal 2 1 ∷ WaitAll
    ∷ Jump 15 ∷ PutValue (Y 1) 1 ∷ Call 0 ∷ PutValue (Y 2) 1 ∷ Call 1 ∷ Deallocate ∷ Proceed ∷ []

abbrev called : ℕ → Predicate
called a = record { name = a; arity = 1; start = 17; «end» = 17; is_listed = true }

abbrev code : Compiled
code = record { instructions = instructions; integers = []; predicates = called 101 ∷ called 102 ∷ []; query = None }

abbrev clause : Clause
clause = record {
  head = node 100 (more (var 1) (more (var 2) none));
  body = group (Indep 1 2 ∷ []) (more (node 101 (more (var 1) none)) (more (node 102 (more (var 2) none)) none)) ∷ [];
  vars = 2;
  line = 1;
}

abbrev second_on : Tree → Trees
second_on t = more (node 102 (more t none)) none

abbrev goals_on : Tree → Tree → Trees
goals_on s t = more (node 101 (more s none)) (second_on t)

abbrev group_on : Tree → Tree → Trees
group_on s t = more apart_mark (more s (more t (more (group_mark 2) (goals_on s t))))

only : (x y : ℕ → Tree) (bs : Trees) → Runs (steps_from code 0) none x y bs → Asks clause x bs
only x y bs (cs, e, (ds, d, (es, k, (fs, h, n)))) =
    (λ v. x v, refl, e ∙ ap (λ r. more apart_mark (more (x 1) (more (x 2) r))) (d ∙ ap (more (group_mark 2)) (k ∙ ap (more (node 101 (more (x 1) none))) (h ∙ ap (more (node 102 (more (x 2) none))) n))))

each : (x y : ℕ → Tree) (bs : Trees) → Asks clause x bs → Runs (steps_from code 0) none x y bs
each x y bs (h, a, b) =
    let first : h 1 ≡ x 1 = cc in
    let second : h 2 ≡ x 2 = cc in
    (more (group_mark 2) (goals_on (x 1) (x 2)), b ∙ ap₂ group_on first second, (goals_on (x 1) (x 2), refl, (second_on (x 2), refl, (none, refl, refl))))

pub example_reads : ReadsAt code 0 clause
example_reads = record {
  reads = record { only = only; each = each };
  openly = (
    λ x y. (more (group_mark 2) (goals_on (y 1) (y 2)), (goals_on (y 1) (y 2), refl, (second_on (y 2), refl, (none, refl, refl)))),
    (λ x y. (goals_on (y 1) (y 2), (second_on (y 2), refl, (none, refl, refl))), (λ x y. (second_on (y 2), (none, refl, refl)), (λ x y. (none, refl), (λ x y. (none, refl), (λ x y. (none, refl), tt))))),
  );
}

only_unmarked : (x y : ℕ → Tree) (bs : Trees) → Runs (steps_from code 11) none x y bs → (ms : Trees) × Unmarked ms bs × Runs (steps_from code 4) none x y ms
only_unmarked x y bs (cs, e, (ds, d, n)) = (more (group_mark 2) bs, past_group 2, (bs, refl, (cs, e, (ds, d, n))))

each_unmarked : (x y : ℕ → Tree) (ms bs : Trees) → Unmarked ms bs → Runs (steps_from code 4) none x y ms → Runs (steps_from code 11) none x y bs
each_unmarked x y ms bs (past_ground u) (cs, e, (ds, d, (es, k, n))) = absurd (cc)
each_unmarked x y ms bs (past_apart u) (cs, e, (ds, d, (es, k, n))) = absurd (cc)
each_unmarked x y ms bs (past_group m) (cs, e, (ds, d, (es, k, n))) = let same : bs ≡ cs = cc in (ds, same ∙ d, (es, k, n))

pub example_unmarked : AsksUnmarked code 4 11
example_unmarked = record {
  only = only_unmarked;
  each = each_unmarked;
  openly = (λ x y. (second_on (y 2), (none, refl, refl)), (λ x y. (none, refl), tt));
}
