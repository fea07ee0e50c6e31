-- Instructions that lead to goals, and to the instructions behind them.
use Rattle.std.proofs.Common.{◌≡◌, ℕ, ℤ, ◌+◌, false, List, ◌∷◌, Option, Some, None, slice_get, refl, sym, subst}
use Rattle.std.proofs.lemmas.Bool.{false≢true}
use Rattle.ap_term.specs.Tree.{int, none, more}
use Rattle.ap_instr.specs.declared.instruction.Instr.{Instr}
use Rattle.ap_instr.specs.declared.instruction.Instr.TheVariants.{GetVariable, GetValue, GetConstant, GetInteger, GetStructure, PutVariable, PutValue, PutConstant, PutInteger, PutStructure, UnifyVariable, UnifyValue, UnifyConstant, UnifyInteger, Allocate, Deallocate, Call, Execute, Proceed, Builtin, Jump, Fail, Try, Retry, Trust, CheckGround, CheckIndep, AllocParcall, PushGoal, WaitAll}
use Rattle.ap_instr.specs.declared.compiled.Predicate.{Predicate}
use Rattle.ap_instr.specs.Code.{Compiled}
use Rattle.ap_instr.specs.Step.{Step, get_constant, put_constant, unify_constant, call, execute, push, other, with_integer, with_predicate, step_of}
use Rattle.ap_instr.specs.Steps.{steps_from}
use Rattle.ap_instr.specs.Runs.{set, applied, spread, lost, IsOpen, AsksOpenly}
use Rattle.ap_needs.specs.Needs.{is_transfer}
use Rattle.ap_needs.proofs.Places.{steps-next}
use Rattle.ap_index.specs.declared.opening.Way.{Way}
use Rattle.ap_index.specs.declared.opening.Way.TheVariants.{On, Structure, Goal, Other}
use Rattle.ap_index.specs.Opening.{IsWayByCall, LeadsBy}

-- ---- goals

call-opens : (p n : ℕ) (is : List Step) → AsksOpenly (call p n ∷ is) → IsOpen (call p n ∷ is)
call-opens p n is o x y = let r = o.0 lost y in (more (applied p (spread x 1 n)) r.0, (r.0, refl, r.1))

-- a call by its predicate, where the table has it
by-call : (o : Option Predicate) → IsWayByCall o Goal → (is : List Step) → AsksOpenly (with_predicate o call ∷ is) → IsOpen (with_predicate o call ∷ is)
by-call None e is opens = absurd (let z : ⊥ = cc in z)
by-call (Some q) e is opens = call-opens q.name q.arity is opens

by-execute : (o : Option Predicate) → IsWayByCall o Goal → (is : List Step) → AsksOpenly (with_predicate o execute ∷ is) → IsOpen (with_predicate o execute ∷ is)
by-execute None e is opens = absurd (let z : ⊥ = cc in z)
by-execute (Some q) e is opens = λ x y. (more (applied q.name (spread x 1 q.arity)) none, refl)

by-push : (o : Option Predicate) → IsWayByCall o Goal → (is : List Step) → AsksOpenly (with_predicate o push ∷ is) → IsOpen (with_predicate o push ∷ is)
by-push None e is opens = absurd (let z : ⊥ = cc in z)
by-push (Some q) e is opens = λ x y. let r = opens.0 x y in (more (applied q.name (spread x 1 q.arity)) r.0, (r.0, refl, r.1))

by-none : (o : Option Predicate) (f : ℕ → ℕ → Step) → IsWayByCall o Other → with_predicate o f ≡ other
by-none None f e = refl
by-none (Some q) f e = absurd (let z : ⊥ = cc in z)

never-on : (o : Option Predicate) → IsWayByCall o On → ⊥
never-on None e = let z : ⊥ = cc in z
never-on (Some q) e = let z : ⊥ = cc in z

never-structure : (n a : ℕ) (o : Option Predicate) → IsWayByCall o (Structure n a) → ⊥
never-structure n a None e = let z : ⊥ = cc in z
never-structure n a (Some q) e = let z : ⊥ = cc in z

pub led-by-call : (code : Compiled) (p : ℕ) (way : Way) → IsWayByCall (slice_get code.predicates p) way → LeadsBy code (Call p) way
led-by-call code p On h = absurd (never-on (slice_get code.predicates p) h)
led-by-call code p (Structure n a) h = absurd (never-structure n a (slice_get code.predicates p) h)
led-by-call code p Goal h = by-call (slice_get code.predicates p) h
led-by-call code p Other h = λ t. by-none (slice_get code.predicates p) call h

pub led-by-execute : (code : Compiled) (p : ℕ) (way : Way) → IsWayByCall (slice_get code.predicates p) way → LeadsBy code (Execute p) way
led-by-execute code p On h = absurd (never-on (slice_get code.predicates p) h)
led-by-execute code p (Structure n a) h = absurd (never-structure n a (slice_get code.predicates p) h)
led-by-execute code p Goal h = by-execute (slice_get code.predicates p) h
led-by-execute code p Other h = λ t. by-none (slice_get code.predicates p) execute h

pub led-by-push : (code : Compiled) (n p : ℕ) (way : Way) → IsWayByCall (slice_get code.predicates p) way → LeadsBy code (PushGoal n p) way
led-by-push code n p On h = absurd (never-on (slice_get code.predicates p) h)
led-by-push code n p (Structure m a) h = absurd (never-structure m a (slice_get code.predicates p) h)
led-by-push code n p Goal h = by-push (slice_get code.predicates p) h
led-by-push code n p Other h = λ t. by-none (slice_get code.predicates p) push h

-- a constant is put, where it is an integer that the table has
pub by-listed : (o : Option ℤ) (z : ℤ) → Some z ≡ o → (a : ℕ) (is : List Step) → IsOpen is → IsOpen (with_integer o (λ c. put_constant c a) ∷ is)
by-listed None z e a is opens = absurd (let f : ⊥ = cc in f)
by-listed (Some v) z e a is opens = λ x y. opens (set x a (int v)) y

-- ---- behind an instruction

passed : (code : Compiled) (i : Instr) (is : List Step) → is_transfer i ≡ false → AsksOpenly (step_of code i ∷ is) → AsksOpenly is
passed code (GetVariable v a) is e o = o
passed code (GetValue v a) is e o = o
passed code (GetConstant c a) is e o = o
passed code (GetInteger i a) is e o = go (slice_get code.integers i) o
  where
    go : (z : Option ℤ) → AsksOpenly (with_integer z (λ c. get_constant c a) ∷ is) → AsksOpenly is
    go None o = o
    go (Some z) o = o
passed code (GetStructure f n a) is e o = o
passed code (PutVariable v a) is e o = o
passed code (PutValue v a) is e o = o
passed code (PutConstant c a) is e o = o
passed code (PutInteger i a) is e o = go (slice_get code.integers i) o
  where
    go : (z : Option ℤ) → AsksOpenly (with_integer z (λ c. put_constant c a) ∷ is) → AsksOpenly is
    go None o = o
    go (Some z) o = o
passed code (PutStructure f n a) is e o = o
passed code (UnifyVariable v) is e o = o
passed code (UnifyValue v) is e o = o
passed code (UnifyConstant c) is e o = o
passed code (UnifyInteger i) is e o = go (slice_get code.integers i) o
  where
    go : (z : Option ℤ) → AsksOpenly (with_integer z unify_constant ∷ is) → AsksOpenly is
    go None o = o
    go (Some z) o = o
passed code (Allocate n) is e o = o
passed code Deallocate is e o = o
passed code (Call q) is e o = absurd (false≢true (sym e))
passed code (Execute q) is e o = absurd (false≢true (sym e))
passed code Proceed is e o = absurd (false≢true (sym e))
passed code (Builtin b) is e o = absurd (false≢true (sym e))
passed code (Jump l) is e o = absurd (false≢true (sym e))
passed code Fail is e o = absurd (false≢true (sym e))
passed code (Try l) is e o = absurd (false≢true (sym e))
passed code (Retry l) is e o = absurd (false≢true (sym e))
passed code (Trust l) is e o = absurd (false≢true (sym e))
passed code (CheckGround v l) is e o = absurd (false≢true (sym e))
passed code (CheckIndep v w l) is e o = absurd (false≢true (sym e))
passed code (AllocParcall n l) is e o = absurd (false≢true (sym e))
passed code (PushGoal n q) is e o = absurd (false≢true (sym e))
passed code WaitAll is e o = absurd (false≢true (sym e))

-- behind an instruction
pub past : (code : Compiled) (at : ℕ) (i : Instr) → slice_get code.instructions at ≡ Some i → is_transfer i ≡ false → AsksOpenly (steps_from code at) → AsksOpenly (steps_from code (at + 1))
past code at i e goes_on o = passed code i (steps_from code (at + 1)) goes_on (subst AsksOpenly (steps-next code at i e goes_on) o)
