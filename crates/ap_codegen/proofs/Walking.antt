-- Steps with numbers of tables keep the rules of code.
use Rattle.std.proofs.Common.{[], ◌≡◌, ℕ, ◌+◌, ◌<◌, nat_lt, ◌==◌, Bool, true, false, is_some, ℤ, List, ◌∷◌, ◌++◌, Option, Some, None, refl, ap, sym, ◌∙◌, subst, arith}
use Rattle.std.specs.List.{slice_get}
use Rattle.std.proofs.lemmas.Bool.{false≢true}
use Rattle.std.proofs.lemmas.Bool.Decides.{nat_tests}
use Rattle.std.proofs.lemmas.Option.{slice_get_within}
use Rattle.ap_instr.specs.declared.instruction.Slot.{Slot}
use Rattle.ap_instr.specs.declared.instruction.Slot.TheVariants.{X, Y}
use Rattle.ap_instr.specs.declared.instruction.Instr.{Instr}
use Rattle.ap_instr.specs.declared.instruction.Instr.TheVariants.{GetVariable, GetValue, GetConstant, GetInteger, GetStructure, PutVariable, PutValue, PutConstant, PutInteger, PutStructure, UnifyVariable, UnifyValue, UnifyConstant, UnifyInteger, Allocate, Deallocate, Call, Execute, Proceed, Builtin, Jump, Fail, Try, Retry, Trust, CheckGround, CheckIndep, AllocParcall, PushGoal, WaitAll}
use Rattle.ap_instr.specs.declared.compiled.Predicate.{Predicate}
use Rattle.ap_instr.specs.Code.{Compiled}
use Rattle.ap_instr.specs.Step.{Step, get_constant, put_constant, unify_constant, call, execute, proceed, push, with_integer, with_predicate, step_of as said_by, steps_of as said}
use Rattle.ap_codecheck.specs.Shape.{Shape, passed, after}
use Rattle.ap_codecheck.specs.Rules.{ReadsSet, HasRoom, FitsEnvironment, IsInTurn, FitsGroup, GoesOn, arity_in, ArgumentsSet, IsNumbered as IsFromOne}
use Rattle.ap_codecheck.specs.Walk.{is_inner, elsewhere, Walks}
use Rattle.ap_codegen.specs.Temporary.{ends}
use Rattle.ap_codegen.specs.Paces.{IsSlot, PacesTo, Paces}
use Rattle.ap_codegen.specs.Assembled.{IsAlone, AreAlone}

pub room_of : (v : Slot) (s : Shape) → IsSlot v s → HasRoom v s
room_of (X n) s i = tt
room_of (Y n) s i = i.1

pub from_one : (v : Slot) (s : Shape) → IsSlot v s → IsFromOne v
from_one (X n) s i = i
from_one (Y n) s i = i.0

pub turn_none : (s : Shape) → s.pending ≡ 0 → false ≡ nat_lt 0 s.pending
turn_none s e = sym (ap (nat_lt 0) e)

pub turn_some : (s : Shape) → 0 < s.pending → true ≡ nat_lt 0 s.pending
turn_some s e = sym (go s.pending e)
  where
    go : (p : ℕ) → 0 < p → nat_lt 0 p ≡ true
    go p l = grind (arith, nat_tests)

pub push_paces : (K : Shape → Type 0) (o : Option Predicate) (is : List Step) (s : Shape) → PacesTo K (with_predicate o push ∷ is) s → ⊥
push_paces K None is s p = p
push_paces K (Some q) is s p = p

-- an instruction within a clause
pub record Inner (K : Shape → Type 0) (code : Compiled) (i : Instr) (is : List Step) (s : Shape) : Type 0 where
  pub reads : ReadsSet code i s
  pub fits : FitsEnvironment i s
  pub turn : IsInTurn i s
  pub inner : is_inner i ≡ true
  pub next : PacesTo K is (after i s)

pub inner_walk : (K : Shape → Type 0) (code : Compiled) (i : Instr) (is : List Step) (s : Shape) → ends (said_by code i) ≡ false → PacesTo K (said_by code i ∷ is) s → Inner K code i is s
inner_walk K code (GetVariable v a) is s e p = record { reads = p.2; fits = room_of v s p.0; turn = turn_none s p.3; inner = refl; next = p.4 }
inner_walk K code (GetValue v a) is s e p = record { reads = (p.2, p.3); fits = room_of v s p.0; turn = turn_none s p.4; inner = refl; next = p.5 }
inner_walk K code (GetConstant c a) is s e p = record { reads = p.1; fits = tt; turn = turn_none s p.2; inner = refl; next = p.3 }
inner_walk K code (GetInteger j a) is s e p = go (slice_get code.integers j) p
  where
    go : (o : Option ℤ) → PacesTo K (with_integer o (λ c. get_constant c a) ∷ is) s → Inner K code (GetInteger j a) is s
    go None p = absurd p
    go (Some z) p = record { reads = p.1; fits = tt; turn = turn_none s p.2; inner = refl; next = p.3 }
inner_walk K code (GetStructure f n a) is s e p = record { reads = p.1; fits = tt; turn = turn_none s p.2; inner = refl; next = p.3 }
inner_walk K code (PutVariable v a) is s e p = record { reads = tt; fits = room_of v s p.0; turn = turn_none s p.2; inner = refl; next = p.3 }
inner_walk K code (PutValue v a) is s e p = record { reads = p.2; fits = room_of v s p.0; turn = turn_none s p.3; inner = refl; next = p.4 }
inner_walk K code (PutConstant c a) is s e p = record { reads = tt; fits = tt; turn = turn_none s p.1; inner = refl; next = p.2 }
inner_walk K code (PutInteger j a) is s e p = go (slice_get code.integers j) p
  where
    go : (o : Option ℤ) → PacesTo K (with_integer o (λ c. put_constant c a) ∷ is) s → Inner K code (PutInteger j a) is s
    go None p = absurd p
    go (Some z) p = record { reads = tt; fits = tt; turn = turn_none s p.1; inner = refl; next = p.2 }
inner_walk K code (PutStructure f n a) is s e p = record { reads = tt; fits = tt; turn = turn_none s p.1; inner = refl; next = p.2 }
inner_walk K code (UnifyVariable v) is s e p = record { reads = tt; fits = room_of v s p.0; turn = turn_some s p.1; inner = refl; next = p.2 }
inner_walk K code (UnifyValue v) is s e p = record { reads = p.1; fits = room_of v s p.0; turn = turn_some s p.2; inner = refl; next = p.3 }
inner_walk K code (UnifyConstant c) is s e p = record { reads = tt; fits = tt; turn = turn_some s p.0; inner = refl; next = p.1 }
inner_walk K code (UnifyInteger j) is s e p = go (slice_get code.integers j) p
  where
    go : (o : Option ℤ) → PacesTo K (with_integer o unify_constant ∷ is) s → Inner K code (UnifyInteger j) is s
    go None p = absurd p
    go (Some z) p = record { reads = tt; fits = tt; turn = turn_some s p.0; inner = refl; next = p.1 }
inner_walk K code (Allocate n) is s e p = absurd p
inner_walk K code Deallocate is s e p = absurd p
inner_walk K code (Call q) is s e p = go (slice_get code.predicates q) refl p
  where
    go : (o : Option Predicate) → slice_get code.predicates q ≡ o → PacesTo K (with_predicate o call ∷ is) s → Inner K code (Call q) is s
    go None d p = absurd p
    go (Some r) d p = record { reads = subst (λ o. ArgumentsSet (arity_in o) s) (sym d) p.0; fits = p.1; turn = turn_none s p.2; inner = refl; next = p.3 }
inner_walk K code (Execute q) is s e p = go (slice_get code.predicates q) e p
  where
    go : (o : Option Predicate) → ends (with_predicate o execute) ≡ false → PacesTo K (with_predicate o execute ∷ is) s → Inner K code (Execute q) is s
    go None d p = absurd p
    go (Some r) d p = absurd (false≢true (sym d))
inner_walk K code Proceed is s e p = absurd (false≢true (sym e))
inner_walk K code (Builtin b) is s e p = record { reads = p.0; fits = tt; turn = turn_none s p.1; inner = refl; next = p.2 }
inner_walk K code (Jump l) is s e p = absurd p
inner_walk K code Fail is s e p = absurd p
inner_walk K code (Try l) is s e p = absurd p
inner_walk K code (Retry l) is s e p = absurd p
inner_walk K code (Trust l) is s e p = absurd p
inner_walk K code (CheckGround v l) is s e p = absurd p
inner_walk K code (CheckIndep v w l) is s e p = absurd p
inner_walk K code (AllocParcall n l) is s e p = absurd p
inner_walk K code (PushGoal n q) is s e p = absurd (push_paces K (slice_get code.predicates q) is s p)
inner_walk K code WaitAll is s e p = absurd p

-- an instruction that ends a clause, where the environment was given back
pub record Last (code : Compiled) (i : Instr) (is : List Step) (z : Shape) : Type 0 where
  pub reads : ReadsSet code i z
  pub fits : FitsEnvironment i z
  pub turn : IsInTurn i z
  pub last : is_inner i ≡ false
  pub alone : is ≡ []

pub last_walk : (K : Shape → Type 0) (code : Compiled) (i : Instr) (is : List Step) (s z : Shape) → ends (said_by code i) ≡ true → ((w : ℕ) → s.x w ≡ true → z.x w ≡ true) → z.pending ≡ s.pending → is_some z.room ≡ false → PacesTo K (said_by code i ∷ is) s → Last code i is z
last_walk K code (Execute q) is s z e x n r p = go (slice_get code.predicates q) refl e p
  where
    go : (o : Option Predicate) → slice_get code.predicates q ≡ o → ends (with_predicate o execute) ≡ true → PacesTo K (with_predicate o execute ∷ is) s → Last code (Execute q) is z
    go None d e p = absurd p
    go (Some c) d e p =
        record { reads = subst (λ o. ArgumentsSet (arity_in o) z) (sym d) (λ a l h. x a (p.0 a l h)); fits = r; turn = turn_none z (n ∙ p.1); last = refl; alone = p.2 }
last_walk K code Proceed is s z e x n r p = record { reads = tt; fits = r; turn = turn_none z (n ∙ p.0); last = refl; alone = p.1 }
last_walk K code (GetInteger j a) is s z e x n r p = go (slice_get code.integers j) e p
  where
    go : (o : Option ℤ) → ends (with_integer o (λ c. get_constant c a)) ≡ true → PacesTo K (with_integer o (λ c. get_constant c a) ∷ is) s → Last code (GetInteger j a) is z
    go None e p = absurd p
    go (Some k) e p = absurd (false≢true e)
last_walk K code (PutInteger j a) is s z e x n r p = go (slice_get code.integers j) e p
  where
    go : (o : Option ℤ) → ends (with_integer o (λ c. put_constant c a)) ≡ true → PacesTo K (with_integer o (λ c. put_constant c a) ∷ is) s → Last code (PutInteger j a) is z
    go None e p = absurd p
    go (Some k) e p = absurd (false≢true e)
last_walk K code (UnifyInteger j) is s z e x n r p = go (slice_get code.integers j) e p
  where
    go : (o : Option ℤ) → ends (with_integer o unify_constant) ≡ true → PacesTo K (with_integer o unify_constant ∷ is) s → Last code (UnifyInteger j) is z
    go None e p = absurd p
    go (Some k) e p = absurd (false≢true e)
last_walk K code (PushGoal k q) is s z e x n r p = absurd (push_paces K (slice_get code.predicates q) is s p)
last_walk K code (Call q) is s z e x n r p = go (slice_get code.predicates q) e p
  where
    go : (o : Option Predicate) → ends (with_predicate o call) ≡ true → PacesTo K (with_predicate o call ∷ is) s → Last code (Call q) is z
    go None e p = absurd p
    go (Some k) e p = absurd (false≢true e)
last_walk K code _ is s z e x n r p = absurd (false≢true e)

-- ---- an instruction outside of groups goes on behind it alone

pub record Outside (i : Instr) (at : ℕ) (s : Shape) : Type 0 where
  pub group : FitsGroup i s.group
  pub on : GoesOn i at
  pub alone : elsewhere i ≡ None

pub outside_walk : (K : Shape → Type 0) (code : Compiled) (i : Instr) (at : ℕ) (is : List Step) (s z : Shape) → z.group ≡ None → PacesTo K (said_by code i ∷ is) s → Outside i at z
outside_walk K code (Jump l) at is s z g p = absurd p
outside_walk K code Fail at is s z g p = absurd p
outside_walk K code (Try l) at is s z g p = absurd p
outside_walk K code (Retry l) at is s z g p = absurd p
outside_walk K code (Trust l) at is s z g p = absurd p
outside_walk K code (CheckGround v l) at is s z g p = absurd p
outside_walk K code (CheckIndep v w l) at is s z g p = absurd p
outside_walk K code (AllocParcall n l) at is s z g p = absurd p
outside_walk K code (PushGoal n q) at is s z g p = absurd (push_paces K (slice_get code.predicates q) is s p)
outside_walk K code WaitAll at is s z g p = absurd p
outside_walk K code i at is s z g p = record { group = subst (FitsGroup i) (sym g) tt; on = tt; alone = refl }

-- ---- no instruction but one of an environment changes whether there is one

passed_room : (b : Bool) (s : Shape) → (passed b s).room ≡ s.room
passed_room true s = refl
passed_room false s = refl

pub same_room : (K : Shape → Type 0) (code : Compiled) (i : Instr) (is : List Step) (s : Shape) → PacesTo K (said_by code i ∷ is) s → (after i s).room ≡ s.room
same_room K code (UnifyVariable v) is s p = passed_room (s.pending == 1) _
same_room K code (UnifyValue v) is s p = passed_room (s.pending == 1) s
same_room K code (UnifyConstant c) is s p = passed_room (s.pending == 1) s
same_room K code (UnifyInteger c) is s p = passed_room (s.pending == 1) s
same_room K code (Allocate n) is s p = absurd p
same_room K code Deallocate is s p = absurd p
same_room K code (PushGoal n q) is s p = absurd (push_paces K (slice_get code.predicates q) is s p)
same_room K code _ is s p = refl

pub passed_group : (b : Bool) (s : Shape) → (passed b s).group ≡ s.group
passed_group true s = refl
passed_group false s = refl

pub same_group : (K : Shape → Type 0) (code : Compiled) (i : Instr) (is : List Step) (s : Shape) → PacesTo K (said_by code i ∷ is) s → (after i s).group ≡ s.group
same_group K code (UnifyVariable v) is s p = passed_group (s.pending == 1) _
same_group K code (UnifyValue v) is s p = passed_group (s.pending == 1) s
same_group K code (UnifyConstant c) is s p = passed_group (s.pending == 1) s
same_group K code (UnifyInteger c) is s p = passed_group (s.pending == 1) s
same_group K code (AllocParcall n l) is s p = absurd p
same_group K code (PushGoal n q) is s p = absurd (push_paces K (slice_get code.predicates q) is s p)
same_group K code WaitAll is s p = absurd p
same_group K code _ is s p = refl

-- ---- an instruction by itself

pub alone_walk : (K : Shape → Type 0) (code : Compiled) (i : Instr) (is : List Step) (s : Shape) → PacesTo K (said_by code i ∷ is) s → IsAlone code i
alone_walk K code (GetVariable v a) is s p = ((from_one v s p.0, p.1), tt, λ q. tt)
alone_walk K code (GetValue v a) is s p = ((from_one v s p.0, p.1), tt, λ q. tt)
alone_walk K code (GetConstant c a) is s p = (p.0, tt, λ q. tt)
alone_walk K code (GetInteger j a) is s p = go (slice_get code.integers j) refl p
  where
    go : (o : Option ℤ) → slice_get code.integers j ≡ o → PacesTo K (with_integer o (λ c. get_constant c a) ∷ is) s → IsAlone code (GetInteger j a)
    go None d p = absurd p
    go (Some z) d p = ((slice_get_within code.integers j z d, p.0), tt, λ q. tt)
alone_walk K code (GetStructure f n a) is s p = (p.0, tt, λ q. tt)
alone_walk K code (PutVariable v a) is s p = ((from_one v s p.0, p.1), tt, λ q. tt)
alone_walk K code (PutValue v a) is s p = ((from_one v s p.0, p.1), tt, λ q. tt)
alone_walk K code (PutConstant c a) is s p = (p.0, tt, λ q. tt)
alone_walk K code (PutInteger j a) is s p = go (slice_get code.integers j) refl p
  where
    go : (o : Option ℤ) → slice_get code.integers j ≡ o → PacesTo K (with_integer o (λ c. put_constant c a) ∷ is) s → IsAlone code (PutInteger j a)
    go None d p = absurd p
    go (Some z) d p = ((slice_get_within code.integers j z d, p.0), tt, λ q. tt)
alone_walk K code (PutStructure f n a) is s p = (p.0, tt, λ q. tt)
alone_walk K code (UnifyVariable v) is s p = (from_one v s p.0, tt, λ q. tt)
alone_walk K code (UnifyValue v) is s p = (from_one v s p.0, tt, λ q. tt)
alone_walk K code (UnifyConstant c) is s p = (tt, tt, λ q. tt)
alone_walk K code (UnifyInteger j) is s p = go (slice_get code.integers j) refl p
  where
    go : (o : Option ℤ) → slice_get code.integers j ≡ o → PacesTo K (with_integer o unify_constant ∷ is) s → IsAlone code (UnifyInteger j)
    go None d p = absurd p
    go (Some z) d p = (slice_get_within code.integers j z d, tt, λ q. tt)
alone_walk K code (Allocate n) is s p = absurd p
alone_walk K code Deallocate is s p = absurd p
alone_walk K code (Call k) is s p = go (slice_get code.predicates k) refl p
  where
    go : (o : Option Predicate) → slice_get code.predicates k ≡ o → PacesTo K (with_predicate o call ∷ is) s → IsAlone code (Call k)
    go None d p = absurd p
    go (Some r) d p = (tt, slice_get_within code.predicates k r d, λ q. tt)
alone_walk K code (Execute k) is s p = go (slice_get code.predicates k) refl p
  where
    go : (o : Option Predicate) → slice_get code.predicates k ≡ o → PacesTo K (with_predicate o execute ∷ is) s → IsAlone code (Execute k)
    go None d p = absurd p
    go (Some r) d p = (tt, slice_get_within code.predicates k r d, λ q. tt)
alone_walk K code Proceed is s p = (tt, tt, λ q. tt)
alone_walk K code (Builtin b) is s p = (tt, tt, λ q. tt)
alone_walk K code (Jump l) is s p = absurd p
alone_walk K code Fail is s p = absurd p
alone_walk K code (Try l) is s p = absurd p
alone_walk K code (Retry l) is s p = absurd p
alone_walk K code (Trust l) is s p = absurd p
alone_walk K code (CheckGround v l) is s p = absurd p
alone_walk K code (CheckIndep v w l) is s p = absurd p
alone_walk K code (AllocParcall n l) is s p = absurd p
alone_walk K code (PushGoal n q) is s p = absurd (push_paces K (slice_get code.predicates q) is s p)
alone_walk K code WaitAll is s p = absurd p

-- ---- clauses with no environment

pub empty_said : (code : Compiled) (is : List Instr) → said code is ≡ [] → is ≡ []
empty_said code [] e = refl
empty_said code (i ∷ is) e = cc

-- an instruction that keeps the rules, and the walk behind it
pub here : (code : Compiled) (i : Instr) (at : ℕ) (is : List Instr) (s : Shape) → ReadsSet code i s → FitsEnvironment i s → IsInTurn i s → Outside i at s → (is_inner i ≡ true → Walks code (at + 1) 0 is (after i s)) → Walks code at 0 (i ∷ is) s
here code i at is s r f t o w = (record { reads = r; environment = f; turn = t; group = o.group; on = o.on }, w, λ l e. let n : elsewhere i ≡ None = o.alone in cc)

pub plain_walk : (code : Compiled) (at : ℕ) (is later : List Instr) (s : Shape) → s.room ≡ None → s.group ≡ None → Paces (said code is) s → Walks code at 0 (is ++ later) s
plain_walk code at [] later s r g p = absurd p
plain_walk code at (i ∷ is) later s r g p =
    go (ends (said_by code i)) refl (λ q. plain_walk code (at + 1) is later (after i s) (same_room (λ z. ⊥) code i (said code is) s p ∙ r) (same_group (λ z. ⊥) code i (said code is) s p ∙ g) q)
  where
    go : (b : Bool) → ends (said_by code i) ≡ b → (Paces (said code is) (after i s) → Walks code (at + 1) 0 (is ++ later) (after i s)) → Walks code at 0 (i ∷ (is ++ later)) s
    go true e ih =
        let d = last_walk (λ z. ⊥) code i (said code is) s s e (λ w h. h) refl (ap is_some r) p in
        here code i at (is ++ later) s d.reads d.fits d.turn (outside_walk (λ z. ⊥) code i at (said code is) s s g p) (λ h. absurd (false≢true (sym d.last ∙ h)))
    go false e ih =
        let d = inner_walk (λ z. ⊥) code i (said code is) s e p in
        here code i at (is ++ later) s d.reads d.fits d.turn (outside_walk (λ z. ⊥) code i at (said code is) s s g p) (λ h. ih d.next)

pub plain_alone : (code : Compiled) (is : List Instr) (s : Shape) → Paces (said code is) s → AreAlone code is
plain_alone code [] s p = tt
plain_alone code (i ∷ is) s p = (alone_walk (λ z. ⊥) code i (said code is) s p, go (ends (said_by code i)) refl (λ q. plain_alone code is (after i s) q))
  where
    go : (b : Bool) → ends (said_by code i) ≡ b → (Paces (said code is) (after i s) → AreAlone code is) → AreAlone code is
    go true e ih =
        let d = last_walk (λ z. ⊥) code i (said code is) s (record { x = s.x; y = s.y; room = None; pending = s.pending; target = s.target; group = s.group }) e (λ w h. h) refl refl p in
        subst (AreAlone code) (sym (empty_said code is d.alone)) tt
    go false e ih = ih (inner_walk (λ z. ⊥) code i (said code is) s e p).next

-- ---- clauses inside an environment

pub turn_end : (K : Shape → Type 0) (t : Step) (ts : List Step) (s : Shape) → ends t ≡ true → PacesTo K (t ∷ ts) s → false ≡ nat_lt 0 s.pending
turn_end K (execute q k) ts s e p = turn_none s p.1
turn_end K proceed ts s e p = turn_none s p.0
turn_end K _ ts s e p = absurd (false≢true e)
