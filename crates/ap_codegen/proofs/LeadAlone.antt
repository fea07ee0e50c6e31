-- What the instructions of a clause with groups keep by themselves: operands in range, and labels inside the clause.
use Rattle.std.proofs.Common.{◌≡◌, ℕ, ◌+◌, ◌<◌, ◌≤◌, Bool, true, false, if◌then◌else◌, ℤ, List, [], ◌∷◌, length, inl, inr, Option, Some, None, refl, ap, sym, ◌∙◌, subst, arith}
use Rattle.std.specs.List.{slice_get}
use Rattle.std.proofs.lemmas.Bool.{false≢true}
use Rattle.std.proofs.lemmas.Option.{slice_get_within}
use Rattle.ap_term.specs.Tree.{count_trees}
use Rattle.ap_term.specs.Goals.{Clause}
use Rattle.ap_term.specs.WellFormed.{IsClause}
use Rattle.ap_instr.specs.declared.instruction.Instr.{Instr}
use Rattle.ap_instr.specs.declared.instruction.Instr.TheVariants.{GetInteger, PutInteger, UnifyInteger, Allocate, Deallocate, Call, Execute, Jump, Fail, Try, Retry, Trust, CheckGround, CheckIndep, AllocParcall, PushGoal, WaitAll}
use Rattle.ap_instr.specs.declared.compiled.Predicate.{Predicate}
use Rattle.ap_instr.specs.Code.{Compiled}
use Rattle.ap_instr.specs.Step.{get_constant, put_constant, unify_constant, call, execute, push, with_integer, with_predicate, step_of as said_by}
use Rattle.ap_instr.specs.Runs.{arguments}
use Rattle.ap_codecheck.specs.Shape.{entry}
use Rattle.ap_codegen.specs.declared.steps.Step.{Step as Emitted}
use Rattle.ap_codegen.specs.declared.steps.Step.TheVariants.{Execute as ExecuteStep, Proceed as ProceedStep, Allocate as EnterStep, Deallocate as LeaveStep, Jump as JumpStep, CheckGround as GroundStep, CheckIndep as IndepStep, AllocParcall as GroupStep, PushGoal as PushStep, WaitAll as WaitStep}
use Rattle.ap_codegen.specs.Emitted.{step_of, label_of, lead_of, leads_of}
use Rattle.ap_codegen.specs.Temporary.{ends}
use Rattle.ap_codegen.specs.Framed.{leaving}
use Rattle.ap_codegen.specs.Grouped.{IsEnded, clause_leads}
use Rattle.ap_codegen.specs.Said.{special_of, special_in, IsSaidAt, AreSaidAt, AreNumbered}
use Rattle.ap_codegen.specs.Assembled.{AreAlone, IsAloneIn, AreAloneIn}
use Rattle.ap_codegen.specs.Paces.{Paces, inside, PacesLeads, IsInRange, AreInRange, ArePacedLeads}
use Rattle.ap_codegen.proofs.Walking.{plain_alone}
use Rattle.ap_codegen.proofs.LeadPaces.{clause_led}
use Rattle.ap_codegen.proofs.LeadRanges.{clause_range}
use Rattle.ap_codegen.proofs.LeadWalks.{special_same, special_push, numbered_tail, said_at}
use Rattle.ap_codegen.proofs.RelocatedCode.{ended_tail, label_below}

-- ---- one instruction

straight_alone : (code : Compiled) (low end : ℕ) (i : Instr) → special_of i ≡ None → IsInRange (said_by code i) → IsAloneIn code low end i
straight_alone code low end (GetInteger j a) e r = go (slice_get code.integers j) refl r
  where
    go : (o : Option ℤ) → slice_get code.integers j ≡ o → IsInRange (with_integer o (λ c. get_constant c a)) → IsAloneIn code low end (GetInteger j a)
    go None d r = absurd r
    go (Some z) d r = ((slice_get_within code.integers j z d, r), tt, λ p f. tt)
straight_alone code low end (PutInteger j a) e r = go (slice_get code.integers j) refl r
  where
    go : (o : Option ℤ) → slice_get code.integers j ≡ o → IsInRange (with_integer o (λ c. put_constant c a)) → IsAloneIn code low end (PutInteger j a)
    go None d r = absurd r
    go (Some z) d r = ((slice_get_within code.integers j z d, r), tt, λ p f. tt)
straight_alone code low end (UnifyInteger j) e r = go (slice_get code.integers j) refl r
  where
    go : (o : Option ℤ) → slice_get code.integers j ≡ o → IsInRange (with_integer o unify_constant) → IsAloneIn code low end (UnifyInteger j)
    go None d r = absurd r
    go (Some z) d r = (slice_get_within code.integers j z d, tt, λ p f. tt)
straight_alone code low end (Call k) e r = go (slice_get code.predicates k) refl r
  where
    go : (o : Option Predicate) → slice_get code.predicates k ≡ o → IsInRange (with_predicate o call) → IsAloneIn code low end (Call k)
    go None d r = absurd r
    go (Some q) d r = (tt, slice_get_within code.predicates k q d, λ p f. tt)
straight_alone code low end (Execute k) e r = go (slice_get code.predicates k) refl r
  where
    go : (o : Option Predicate) → slice_get code.predicates k ≡ o → IsInRange (with_predicate o execute) → IsAloneIn code low end (Execute k)
    go None d r = absurd r
    go (Some q) d r = (tt, slice_get_within code.predicates k q d, λ p f. tt)
straight_alone code low end (Allocate n) e r = absurd r
straight_alone code low end Deallocate e r = absurd r
straight_alone code low end Fail e r = absurd r
straight_alone code low end (Try l) e r = absurd r
straight_alone code low end (Retry l) e r = absurd r
straight_alone code low end (Trust l) e r = absurd r
straight_alone code low end (Jump l) e r = let f : ⊥ = cc in absurd f
straight_alone code low end (CheckGround v l) e r = let f : ⊥ = cc in absurd f
straight_alone code low end (CheckIndep v w l) e r = let f : ⊥ = cc in absurd f
straight_alone code low end (AllocParcall n l) e r = let f : ⊥ = cc in absurd f
straight_alone code low end (PushGoal k q) e r = let f : ⊥ = cc in absurd f
straight_alone code low end WaitAll e r = let f : ⊥ = cc in absurd f
straight_alone code low end _ e r = (r, tt, λ p f. tt)

push_known : (code : Compiled) (q name size : ℕ) → with_predicate (slice_get code.predicates q) push ≡ push name size → q < length code.predicates
push_known code q name size e = go (slice_get code.predicates q) refl e
  where
    go : (o : Option Predicate) → slice_get code.predicates q ≡ o → with_predicate o push ≡ push name size → q < length code.predicates
    go None d e = let f : ⊥ = cc in absurd f
    go (Some r) d e = slice_get_within code.predicates q r d

step_alone : (code : Compiled) (at low end k : ℕ) (e : Emitted) (es : List Emitted) (i : Instr) → low ≤ at + 1 + label_of e → at + 1 + label_of e < end → IsInRange (step_of e) → AreNumbered k (e ∷ es) → IsSaidAt code at e i
    → IsAloneIn code low end i
step_alone code at low end k (JumpStep d) es i l m r num h = subst (IsAloneIn code low end) (sym (special_same i (Jump (at + 1 + d)) h.special refl)) (tt, tt, λ p f. f (at + 1 + d) l m)
step_alone code at low end k (GroundStep v d) es i l m r num h = subst (IsAloneIn code low end) (sym (special_same i (CheckGround v (at + 1 + d)) h.special refl)) (r, tt, λ p f. f (at + 1 + d) l m)
step_alone code at low end k (IndepStep v w d) es i l m r num h = subst (IsAloneIn code low end) (sym (special_same i (CheckIndep v w (at + 1 + d)) h.special refl)) (r, tt, λ p f. f (at + 1 + d) l m)
step_alone code at low end k (GroupStep n d) es i l m r num h = subst (IsAloneIn code low end) (sym (special_same i (AllocParcall n (at + 1 + d)) h.special refl)) (r, tt, λ p f. tt)
step_alone code at low end k (PushStep j name size) es i l m r num h =
    let f = special_push i j h.special in
    let w : said_by code (PushGoal j f.0) ≡ push name size = ap (said_by code) (sym f.1) ∙ h.says in
    let d = num.0 in
    subst (IsAloneIn code low end) (sym f.1) (omega (arith, d), push_known code f.0 name size w, λ p f. tt)
step_alone code at low end k WaitStep es i l m r num h = subst (IsAloneIn code low end) (sym (special_same i WaitAll h.special refl)) (tt, tt, λ p f. tt)
step_alone code at low end k (EnterStep n) es i l m r num h = absurd r
step_alone code at low end k LeaveStep es i l m r num h = absurd r
step_alone code at low end k e es i l m r num h = straight_alone code low end i h.special (subst IsInRange (sym h.says) r)

last_special : (at : ℕ) (e : Emitted) → ends (step_of e) ≡ true → special_in at e ≡ None
last_special at (ExecuteStep q n) t = refl
last_special at ProceedStep t = refl
last_special at _ t = absurd (false≢true t)

-- ---- the steps of a clause

nothing_behind : (e : Emitted) (es : List Emitted) → ends (step_of e) ≡ true → IsEnded (leads_of (e ∷ es)) → es ≡ []
nothing_behind e [] t h = refl
nothing_behind e (f ∷ fs) t h = absurd (false≢true (sym h.0 ∙ t))

none_said : (code : Compiled) (at : ℕ) (is : List Instr) → AreSaidAt code at [] is → is ≡ []
none_said code at [] h = refl
none_said code at (i ∷ is) h = absurd h

said_length : (code : Compiled) (at : ℕ) (es : List Emitted) (is : List Instr) → AreSaidAt code at (leaving es) is → length (leads_of es) ≤ length is
said_length code at [] is h = omega arith
said_length code at (e ∷ es) is h = go (ends (step_of e)) is h (λ at js d. said_length code at es js d)
  where
    go : (b : Bool) (is : List Instr) → AreSaidAt code at (if b then LeaveStep ∷ e ∷ leaving es else e ∷ leaving es) is
        → ((at : ℕ) (js : List Instr) → AreSaidAt code at (leaving es) js → length (leads_of es) ≤ length js) → length (leads_of (e ∷ es)) ≤ length is
    go true [] h ih = absurd h
    go true (j ∷ []) h ih = absurd h.1
    go true (j ∷ i ∷ is) h ih = let d = ih (at + 1 + 1) is h.1.1 in omega (arith, d)
    go false [] h ih = absurd h
    go false (i ∷ is) h ih = let d = ih (at + 1) is h.1 in omega (arith, d)

lead_alone : (code : Compiled) (low end at k : ℕ) (es : List Emitted) (is : List Instr) → low ≤ at → at + length is ≤ end → IsEnded (leads_of es) → AreInRange (leads_of es) → AreNumbered k es
    → AreSaidAt code at (leaving es) is → AreAloneIn code low end is
lead_alone code low end at k [] is l m d r num h = absurd d
lead_alone code low end at k (e ∷ es) is l m d r num h =
    go (ends (step_of e)) refl is m h (λ js j o q. let f = numbered_tail k e es num in lead_alone code low end (at + 1) f.0 es js (omega (arith, l)) j o r.1 f.1 q)
  where
    go : (b : Bool) → ends (step_of e) ≡ b → (is : List Instr) → at + length is ≤ end → AreSaidAt code at (if b then LeaveStep ∷ e ∷ leaving es else e ∷ leaving es) is
        → ((js : List Instr) → at + 1 + length js ≤ end → IsEnded (leads_of es) → AreSaidAt code (at + 1) (leaving es) js → AreAloneIn code low end js) → AreAloneIn code low end is
    go true t [] m h ih = absurd h
    go true t (j ∷ []) m h ih = absurd h.1
    go true t (j ∷ i ∷ is) m h ih =
        let empty : es ≡ [] = nothing_behind e es t d in
        let none : is ≡ [] = none_said code (at + 1 + 1) is (subst (λ es. AreSaidAt code (at + 1 + 1) (leaving es) is) empty h.1.1) in (
          subst (IsAloneIn code low end) (sym (special_same j Deallocate h.0.special refl)) (tt, tt, λ p f. tt),
          (straight_alone code low end i (h.1.0.special ∙ last_special (at + 1) e t) (subst IsInRange (sym h.1.0.says) r.0), subst (AreAloneIn code low end) (sym none) tt),
        )
    go false t [] m h ih = absurd h
    go false t (i ∷ is) m h ih =
        let few = label_below (lead_of e) (leads_of es) t d in
        let size = said_length code (at + 1) es is h.1 in (
          step_alone code at low end k e es i (omega (arith, l)) (omega (arith, m, few, size)) r.0 num h.0,
          ih is (omega (arith, m)) (ended_tail (lead_of e) (leads_of es) t d) h.1,
        )

alone_in : (code : Compiled) (low end : ℕ) (is : List Instr) → AreAlone code is → AreAloneIn code low end is
alone_in code low end [] h = tt
alone_in code low end (i ∷ is) h = ((h.0.0, h.0.1, λ p f. h.0.2 p), alone_in code low end is h.1)

-- a clause's instructions at a place
pub leads_alone : (code : Compiled) (arity at : ℕ) (es : List Emitted) (is : List Instr) → ArePacedLeads arity es → AreSaidAt code at es is → AreAloneIn code at (at + length is) is
leads_alone code arity at es is (inl p) h = alone_in code at (at + length is) is (plain_alone code is (entry arity) (subst (λ ts. Paces ts (entry arity)) (sym (said_at code at es is h)) p))
leads_alone code arity at es is (inr (vars, fs, e, p, d, num, r)) h = enters is (subst (λ es. AreSaidAt code at es is) e h)
  where
    enters : (is : List Instr) → AreSaidAt code at (EnterStep vars ∷ leaving fs) is → AreAloneIn code at (at + length is) is
    enters [] h = absurd h
    enters (i ∷ is) h = (
      subst (IsAloneIn code at (at + length (i ∷ is))) (sym (special_same i (Allocate vars) h.0.special refl)) (tt, tt, λ p f. tt),
      lead_alone code at (at + length (i ∷ is)) (at + 1) 0 fs is (omega arith) (omega arith) d r num h.1,
    )

-- ---- steps of clauses

-- a clause inside an environment
pub framed_paced : (c : Clause) (es : List Emitted) → IsClause c → leads_of es ≡ clause_leads c → IsEnded (leads_of es) → AreNumbered 0 es → ArePacedLeads (count_trees (arguments c.head)) (EnterStep c.vars ∷ leaving es)
framed_paced c es i e d num =
    inr (c.vars, es, refl, subst (λ ls. PacesLeads 0 ls (inside c.vars (count_trees (arguments c.head)))) (sym e) (clause_led c i), d, num, subst AreInRange (sym e) (clause_range c i))
