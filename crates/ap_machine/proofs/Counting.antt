-- The goals of a group, counted from a place on.
use Rattle.std.proofs.Common.{◌≡◌, ◌∙◌, ℕ, ℤ, ◌+◌, List, ◌∷◌, length, slice_get, Option, Some, None, refl, ap, sym}
use Rattle.ap_term.specs.Tree.{Tree, int}
use Rattle.ap_cells.specs.declared.cells.Raw.{Raw}
use Rattle.ap_instr.specs.declared.instruction.Instr.{Instr}
use Rattle.ap_instr.specs.declared.instruction.Instr.TheVariants.{GetInteger, PutInteger, UnifyInteger, Call, Execute, CheckGround, CheckIndep, PushGoal}
use Rattle.ap_instr.specs.declared.compiled.Predicate.{Predicate}
use Rattle.ap_instr.specs.Code.{Compiled}
use Rattle.ap_instr.specs.Step.{Step, step_of, with_integer, with_predicate, get_constant, put_constant, unify_constant, call, execute, push}
use Rattle.ap_instr.specs.Steps.{steps_from, skipped}
use Rattle.ap_instr.proofs.Steps.{steps_law}
use Rattle.ap_group.specs.Gathers.{Passes, begins, is_ground, are_apart}
use Rattle.ap_group.proofs.Ways.{steps-on}
use Rattle.ap_steps.specs.Moves.{held}
use Rattle.ap_standing.specs.Machine.{inside}
use Rattle.ap_machine.specs.View.{Paused}
use Rattle.ap_machine.specs.Forking.{HasForked}
use Rattle.ap_machine.specs.Ahead.{goals_ahead, goals_said}

-- a step that names something of a table begins no group
integer-none : (o : Option ℤ) (f : Tree → Step) (js : List Step) → ((t : Tree) → goals_ahead (f t ∷ js) ≡ 0) → goals_ahead (with_integer o f ∷ js) ≡ 0
integer-none None f js h = refl
integer-none (Some z) f js h = h (int z)

predicate-none : (o : Option Predicate) (f : ℕ → ℕ → Step) (js : List Step) → ((n k : ℕ) → goals_ahead (f n k ∷ js) ≡ 0) → goals_ahead (with_predicate o f ∷ js) ≡ 0
predicate-none None f js h = refl
predicate-none (Some q) f js h = h q.name q.arity

said : (code : Compiled) (i : Instr) (js : List Step) (n : ℕ) → goals_said i ≡ Some n → goals_ahead (step_of code i ∷ js) ≡ n
said code (GetInteger i a) js n e = integer-none (slice_get code.integers i) (λ c. get_constant c a) js (λ t. refl) ∙ (let q : 0 ≡ n = cc in q)
said code (PutInteger i a) js n e = integer-none (slice_get code.integers i) (λ c. put_constant c a) js (λ t. refl) ∙ (let q : 0 ≡ n = cc in q)
said code (UnifyInteger i) js n e = integer-none (slice_get code.integers i) unify_constant js (λ t. refl) ∙ (let q : 0 ≡ n = cc in q)
said code (Call p) js n e = predicate-none (slice_get code.predicates p) call js (λ m k. refl) ∙ (let q : 0 ≡ n = cc in q)
said code (Execute p) js n e = predicate-none (slice_get code.predicates p) execute js (λ m k. refl) ∙ (let q : 0 ≡ n = cc in q)
said code (PushGoal i p) js n e = predicate-none (slice_get code.predicates p) push js (λ m k. refl) ∙ (let q : 0 ≡ n = cc in q)
said code i js n e = cc

module _ (code : Compiled) (place : ℕ) where
  -- past a check
  pub past-check : (i : Instr) → goals_said i ≡ None → slice_get code.instructions place ≡ Some i → goals_ahead (steps_from code place) ≡ goals_ahead (steps_from code (place + 1))
  past-check (CheckGround v l) s e = ap goals_ahead (steps-on code place (CheckGround v l) e refl)
  past-check (CheckIndep v w l) s e = ap goals_ahead (steps-on code place (CheckIndep v w l) e refl)
  past-check i s e = cc

  -- what isn't a check tells them
  pub told : (i : Instr) (n : ℕ) → goals_said i ≡ Some n → slice_get code.instructions place ≡ Some i → goals_ahead (steps_from code place) ≡ n
  told i n s e = ap goals_ahead (steps_law code place i e) ∙ said code i (steps_from code (place + 1 + skipped i place)) n s

-- checks that are passed change nothing
pub passed-ahead : (cs : List Raw) (x y : ℕ → ℕ) (is : List Step) {js : List Step} → Passes cs x y is js → goals_ahead is ≡ goals_ahead js
passed-ahead cs x y is begins = refl
passed-ahead cs x y is (is_ground v p h g) = passed-ahead cs x y is p
passed-ahead cs x y is (are_apart v w p h k g) = passed-ahead cs x y is p

-- a fork has as many goals as its group says
pub forked-ahead : (code : Compiled) (s t : Paused) (at : ℕ) → s.machine.now ≡ inside at → (h : HasForked code s t) → length h.forked.goals ≡ goals_ahead (steps_from code at)
forked-ahead code s t at e h =
    let same : at ≡ h.at = let q : inside at ≡ inside h.at = sym e ∙ h.here in cc in
    sym (ap (λ k. goals_ahead (steps_from code k)) same ∙ passed-ahead s.machine.cells (held s.machine.x) (held s.machine.y) (steps_from code h.at) h.gathered.passes)
