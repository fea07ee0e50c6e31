-- Instructions that say a clause's steps at a place run as these do, also where some are passed over.
use Rattle.std.proofs.Common.{◌≡◌, ℕ, zero, suc, ◌+◌, ◌-◌, true, ℤ, slice_get, List, [], ◌∷◌, ◌++◌, length, drop, Option, Some, None, refl, ap, sym, ◌∙◌, subst, arith}
use Rattle.std.proofs.lemmas.Bool.{and_parts}
use Rattle.std.specs.List.{list_all}
use Rattle.std.proofs.lemmas.List.{drop-drop}
use Rattle.ap_term.specs.Tree.{Tree, int}
use Rattle.ap_term.specs.Goals.{Clause}
use Rattle.ap_instr.specs.declared.instruction.Instr.{Instr}
use Rattle.ap_instr.specs.declared.instruction.Instr.TheVariants.{GetInteger, PutInteger, UnifyInteger, Call, Execute, Jump, CheckGround, CheckIndep, AllocParcall, PushGoal}
use Rattle.ap_instr.specs.declared.compiled.Predicate.{Predicate}
use Rattle.ap_instr.specs.Code.{Compiled}
use Rattle.ap_instr.specs.Step.{Step, get_constant, put_constant, unify_constant, call, execute, push, with_integer, with_predicate, step_of as said_by}
use Rattle.ap_instr.specs.Steps.{skipped, steps_behind, steps_from}
use Rattle.ap_instr.specs.Runs.{Reads, AsksOpenly}
use Rattle.ap_instr.specs.Groups.{otherwise, rest_of, AsksUnmarked}
use Rattle.ap_instr.specs.StandsFor.{ReadsAt}
use Rattle.ap_instr.proofs.Steps.{behind-passed}
use Rattle.ap_codegen.specs.declared.steps.Step.{Step as Emitted}
use Rattle.ap_codegen.specs.declared.steps.Step.TheVariants.{Jump as JumpStep, CheckGround as GroundStep, CheckIndep as IndepStep, AllocParcall as GroupStep}
use Rattle.ap_codegen.specs.Emitted.{step_of, label_of, Lead, lead_of, leads_of}
use Rattle.ap_codegen.specs.Grouped.{passed_over, flow, Unmarks, has_turns, rest_from, AreTurns, IsGroupedCode}
use Rattle.ap_codegen.specs.CodeOf.{calls_apart}
use Rattle.ap_codegen.specs.Assembled.{AreCallsApart, AreSequences}
use Rattle.ap_codegen.specs.Said.{special_of, special_in, AreSaidAt}

-- ---- instructions as steps with labels

-- how many instructions behind the one at a place are passed over
abbrev label_at : ℕ → Option Instr → ℕ
label_at at (Some (Jump l)) = l - (at + 1)
label_at at (Some (CheckGround v l)) = l - (at + 1)
label_at at (Some (CheckIndep v w l)) = l - (at + 1)
label_at at (Some (AllocParcall n l)) = l - (at + 1)
label_at at _ = 0

-- instructions that stand from a place on
abbrev leads_at : Compiled → ℕ → List Instr → List Lead
leads_at code at [] = []
leads_at code at (i ∷ is) = (said_by code i, label_at at (special_of i)) ∷ leads_at code (at + 1) is

passed_integer : (o : Option ℤ) (f : Tree → Step) → ((t : Tree) → passed_over (f t, 0) ≡ 0) → passed_over (with_integer o f, 0) ≡ 0
passed_integer None f h = refl
passed_integer (Some z) f h = h (int z)

passed_predicate : (o : Option Predicate) (f : ℕ → ℕ → Step) → ((p n : ℕ) → passed_over (f p n, 0) ≡ 0) → passed_over (with_predicate o f, 0) ≡ 0
passed_predicate None f h = refl
passed_predicate (Some q) f h = h q.name q.arity

passed_same : (code : Compiled) (at : ℕ) (i : Instr) → passed_over (said_by code i, label_at at (special_of i)) ≡ skipped i at
passed_same code at (GetInteger j a) = passed_integer (slice_get code.integers j) (λ c. get_constant c a) (λ t. refl)
passed_same code at (PutInteger j a) = passed_integer (slice_get code.integers j) (λ c. put_constant c a) (λ t. refl)
passed_same code at (UnifyInteger j) = passed_integer (slice_get code.integers j) unify_constant (λ t. refl)
passed_same code at (Call q) = passed_predicate (slice_get code.predicates q) call (λ p n. refl)
passed_same code at (Execute q) = passed_predicate (slice_get code.predicates q) execute (λ p n. refl)
passed_same code at (PushGoal j q) = passed_predicate (slice_get code.predicates q) push (λ p n. refl)
passed_same code at _ = refl

-- what runs is the flow
behind_flow : (code : Compiled) (at n : ℕ) (is : List Instr) → steps_behind code at n is ≡ flow n (leads_at code at is)
behind_flow code at n [] = go n
  where
    go : (n : ℕ) → [] ≡ flow n []
    go zero = refl
    go (suc n) = refl
behind_flow code at (suc n) (i ∷ is) = behind_flow code (at + 1) n is
behind_flow code at zero (i ∷ is) =
    ap (λ k. said_by code i ∷ steps_behind code (at + 1) k is) (sym (passed_same code at i))
    ∙ ap (λ ts. said_by code i ∷ ts) (behind_flow code (at + 1) (passed_over (said_by code i, label_at at (special_of i))) is)

-- ---- instructions that say steps

label_said : (at : ℕ) (e : Emitted) → label_at at (special_in at e) ≡ label_of e
label_said at (JumpStep n) = omega arith
label_said at (GroundStep v n) = omega arith
label_said at (IndepStep v w n) = omega arith
label_said at (GroupStep n l) = omega arith
label_said at _ = refl

said_leads : (code : Compiled) (at : ℕ) (es : List Emitted) (is later : List Instr) → AreSaidAt code at es is
    → leads_at code at (is ++ later) ≡ leads_of es ++ leads_at code (at + length is) later
said_leads code at [] [] later h = ap (λ n. leads_at code n later) (let q : at ≡ at + 0 = omega arith in q)
said_leads code at [] (i ∷ is) later h = absurd h
said_leads code at (e ∷ es) [] later h = absurd h
said_leads code at (e ∷ es) (i ∷ is) later h =
    ap (λ t. (t, label_at at (special_of i)) ∷ leads_at code (at + 1) (is ++ later)) h.0.says
    ∙ ap (λ n. (step_of e, n) ∷ leads_at code (at + 1) (is ++ later)) (ap (label_at at) h.0.special ∙ label_said at e)
    ∙ ap (λ ls. lead_of e ∷ ls) (said_leads code (at + 1) es is later h.1)
    ∙ ap (λ n. lead_of e ∷ (leads_of es ++ leads_at code n later)) (let q : at + 1 + length is ≡ at + suc (length is) = omega arith in q)

-- what runs from the place on, where the first n instructions are passed over
said_flow : (code : Compiled) (at n : ℕ) (es : List Emitted) (is later : List Instr) → AreSaidAt code at es is → drop at code.instructions ≡ is ++ later
    → steps_from code (at + n) ≡ flow n (leads_of es ++ leads_at code (at + length is) later)
said_flow code at n es is later h d =
    ap (steps_behind code (at + n) 0) (sym (drop-drop n at code.instructions))
    ∙ sym (behind-passed code at n (drop at code.instructions))
    ∙ ap (steps_behind code at n) d
    ∙ behind_flow code at n (is ++ later)
    ∙ ap (flow n) (said_leads code at es is later h)

from_said : (code : Compiled) (at : ℕ) (es : List Emitted) (is later : List Instr) → AreSaidAt code at es is → drop at code.instructions ≡ is ++ later
    → steps_from code at ≡ flow 0 (leads_of es ++ leads_at code (at + length is) later)
from_said code at es is later h d = ap (steps_from code) (let q : at ≡ at + 0 = omega arith in q) ∙ said_flow code at 0 es is later h d

-- ---- what a clause's steps read, its instructions read at their place

pub said_reads : (code : Compiled) (at : ℕ) (c : Clause) (es : List Emitted) (is later : List Instr) → IsGroupedCode c (leads_of es) → AreSaidAt code at es is → drop at code.instructions ≡ is ++ later → ReadsAt code at c
said_reads code at c es is later g h d =
    let rest : List Lead = leads_at code (at + length is) later in
    let e : flow 0 (leads_of es ++ rest) ≡ steps_from code at = sym (from_said code at es is later h d) in
    record { reads = subst (λ ts. Reads ts c) e (g.reads rest); openly = subst AsksOpenly e (g.openly rest) }

-- where a check, or a group, among steps leads to
abbrev otherwise_in : Option Instr → Option ℕ
otherwise_in None = None
otherwise_in (Some i) = otherwise i

otherwise_special : (i : Instr) → otherwise i ≡ otherwise_in (special_of i)
otherwise_special (CheckGround v l) = refl
otherwise_special (CheckIndep v w l) = refl
otherwise_special (AllocParcall n l) = refl
otherwise_special _ = refl

check_leads_on : (at l : ℕ) (e : Emitted) → otherwise_in (special_in at e) ≡ Some l → (has_turns (step_of e) ≡ true) × (at + 1 + label_of e ≡ l)
check_leads_on at l (GroundStep v n) e = (refl, cc)
check_leads_on at l (IndepStep v w n) e = (refl, cc)
check_leads_on at l (GroupStep n m) e = (refl, cc)
check_leads_on at l _ e = absurd (cc)

-- the place from which on the rest of a group stands
abbrev rest_in : Option Instr → ℕ → ℕ
rest_in None at = at + 1
rest_in (Some i) at = rest_of i at

rest_special : (at : ℕ) (i : Instr) → rest_in (special_of i) at ≡ rest_of i at
rest_special at (AllocParcall n l) = refl
rest_special at _ = refl

rest_said : (code : Compiled) (at : ℕ) (e : Emitted) (es : List Emitted) (i : Instr) (is later : List Instr) → AreSaidAt code at (e ∷ es) (i ∷ is) → drop at code.instructions ≡ i ∷ (is ++ later)
    → rest_from (step_of e) (flow 0 (leads_of es ++ leads_at code (at + suc (length is)) later)) ≡ steps_from code (rest_in (special_in at e) at)
rest_said code at (GroupStep n m) es i is later h d = sym (from_said code at (GroupStep n m ∷ es) (i ∷ is) later h d)
rest_said code at _ es i is later h d =
    let n : at + suc (length is) ≡ at + 1 + length is = omega arith in
    ap (λ n. flow 0 (leads_of es ++ leads_at code n later)) n ∙ sym (from_said code (at + 1) es is later h.1 (sym (drop-drop 1 at code.instructions) ∙ ap (drop 1) d))

unmarks_at : (code : Compiled) (from to : ℕ) (is js : List Step) → is ≡ steps_from code from → js ≡ steps_from code to → Unmarks is js → AsksUnmarked code from to
unmarks_at code from to is js e f u =
    let v : Unmarks (steps_from code from) (steps_from code to) = subst (λ is. Unmarks is (steps_from code to)) e (subst (Unmarks is) f u) in
    record { only = v.only; each = v.each; openly = v.openly }

turns_at : (code : Compiled) (at : ℕ) (es : List Emitted) (is later : List Instr) → AreSaidAt code at es is → drop at code.instructions ≡ is ++ later
    → AreTurns (leads_of es) (leads_at code (at + length is) later) → AreSequences code at is
turns_at code at es [] later h d t = tt
turns_at code at [] (i ∷ is) later h d t = absurd h
turns_at code at (e ∷ es) (i ∷ is) later h d t =
    let n : at + suc (length is) ≡ at + 1 + length is = omega arith in
    let rest : List Lead = leads_at code (at + suc (length is)) later in
    let same : leads_at code (at + 1 + length is) later ≡ rest = ap (λ n. leads_at code n later) (sym n) in
    let behind : drop (at + 1) code.instructions ≡ is ++ later = sym (drop-drop 1 at code.instructions) ∙ ap (drop 1) d in (
      λ l o.
          let c = check_leads_on at l e (ap otherwise_in (sym h.0.special) ∙ sym (otherwise_special i) ∙ o) in
          subst (λ n. AsksUnmarked code n l) (ap (λ s. rest_in s at) (sym h.0.special) ∙ rest_special at i)
          (unmarks_at code (rest_in (special_in at e) at) l (rest_from (step_of e) (flow 0 (leads_of es ++ rest))) (flow (label_of e) (leads_of es ++ rest)) (rest_said code at e es i is later h d)
          (ap (λ r. flow (label_of e) (leads_of es ++ r)) (sym same) ∙ sym (said_flow code (at + 1) (label_of e) es is later h.1 behind) ∙ ap (steps_from code) c.1)
          (t.0 c.0)),
      turns_at code (at + 1) es is later h.1 behind (subst (AreTurns (leads_of es)) (sym same) t.1),
    )

pub said_sequences : (code : Compiled) (at : ℕ) (c : Clause) (es : List Emitted) (is later : List Instr) → IsGroupedCode c (leads_of es) → AreSaidAt code at es is → drop at code.instructions ≡ is ++ later → AreSequences code at is
said_sequences code at c es is later g h d = turns_at code at es is later h d (g.turns (leads_at code (at + length is) later))

-- the instructions call no built-in goals
pub said_apart : (code : Compiled) (at : ℕ) (es : List Emitted) (is : List Instr) → AreSaidAt code at es is → list_all (λ l. calls_apart l.0) (leads_of es) ≡ true → AreCallsApart code is
said_apart code at es [] h a = tt
said_apart code at [] (i ∷ is) h a = absurd h
said_apart code at (e ∷ es) (i ∷ is) h a =
    let b = and_parts (calls_apart (step_of e)) (list_all (λ l. calls_apart l.0) (leads_of es)) a in
    (ap calls_apart h.0.says ∙ b.0, said_apart code (at + 1) es is h.1 b.1)
