-- Paths of a clause: a place is fine where all that its instruction leads to is.
use Rattle.std.proofs.Common.{◌≡◌, ◌⊎◌, ℕ, zero, suc, ◌+◌, ◌<◌, ◌≤◌, min, length, true, List, Some, refl, sym, ap, subst, inl, inr, arith}
use Rattle.std.specs.List.{slice_get}
use Rattle.std.proofs.lemmas.Option.{slice_get_cases}
use Rattle.ap_instr.specs.declared.instruction.Instr.{Instr}
use Rattle.ap_instr.specs.declared.instruction.Instr.TheVariants.{Execute, Proceed, Jump, Fail, Try, Retry, Trust, CheckGround, CheckIndep}
use Rattle.ap_instr.specs.declared.compiled.Predicate.{Predicate}
use Rattle.ap_instr.specs.Code.{Compiled}
use Rattle.ap_codecheck.specs.declared.rule.Rule.{Rule}
use Rattle.ap_codecheck.specs.declared.rule.Rule.TheVariants.{Operand, Target, Unset, Environment, Argument, Group, End, Called}
use Rattle.ap_codecheck.specs.declared.rule.CodeErr.{CodeErr}
use Rattle.ap_codecheck.specs.declared.rule.CodeErr.TheVariants.{Bad, NoMemory}
use Rattle.ap_codecheck.specs.Shape.{Shape, after}
use Rattle.ap_codecheck.specs.Paths.{IsPlaceOf, Leads, Path}
use Rattle.ap_codecheck.specs.Rules.{GoesOn}
use Rattle.ap_codecheck.specs.Walk.{is_inner, elsewhere}
use Rattle.ap_codecheck.specs.Judged.{IsFine, IsFineFrom, FailsFrom, IsJudged}

-- a path goes on by the instruction at its end
pub Path-more : (code : Compiled) (n a b to : ℕ) (s t : Shape) (i : Instr) → Path code n a s b t → slice_get code.instructions b ≡ Some i → Leads i b to → Path code (suc n) a s to (after i t)
Path-more code zero a b to s t i p e l =
    (i, to, (let P : ℕ → Type 0 = λ k. slice_get code.instructions k ≡ Some i in subst P (sym p.0) e), (let P : ℕ → Type 0 = λ k. Leads i k to in subst P (sym p.0) l), (refl, ap (after i) p.1))
Path-more code (suc n) a b to s t i p e l =
    (p.0, p.1, p.2, p.3, Path-more code n p.1 b to (after p.0 s) t i p.4 e l)

-- the instruction at a place of the code
pub held_at : (code : Compiled) (at : ℕ) → at < length code.instructions → (i : Instr) × (slice_get code.instructions at ≡ Some i)
held_at code at h =
    elim (slice_get_cases code.instructions at).1 as (λ _. (i : Instr) × (slice_get code.instructions at ≡ Some i)) [ inl w ↦ (w.0, w.2) | inr w ↦ absurd (omega (arith, w.0)) ]

same_instr : (code : Compiled) (at : ℕ) (i j : Instr) → slice_get code.instructions at ≡ Some i → slice_get code.instructions at ≡ Some j → i ≡ j
same_instr code at i j e f = cc

-- a place below the ends of the predicate and of the code
pub place_below : (code : Compiled) (p : Predicate) (at end : ℕ) (is : List Instr) → p.start ≤ at → at < end → end ≡ min p.end (length is) → is ≡ code.instructions → IsPlaceOf code p at
place_below code p at end is a b c d =
    let long : length is ≡ length code.instructions = ap length d in
    record { from = a; before = omega arith; held = omega arith }

fine_here : (code : Compiled) (p : Predicate) (at : ℕ) (s : Shape) → IsPlaceOf code p at → IsJudged code at s → (rule : Rule) → IsFine rule code p at s
fine_here code p at s h j End = (h, j End)
fine_here code p at s h j Operand = j Operand
fine_here code p at s h j Target = j Target
fine_here code p at s h j Unset = j Unset
fine_here code p at s h j Environment = j Environment
fine_here code p at s h j Argument = j Argument
fine_here code p at s h j Group = j Group
fine_here code p at s h j Called = j Called

-- the path of no instruction
fine_still : (code : Compiled) (p : Predicate) (at to : ℕ) (s t : Shape) → IsPlaceOf code p at → IsJudged code at s → at ≡ to → s ≡ t → (rule : Rule) → IsFine rule code p to t
fine_still code p at to s t h j e f rule =
    let P : ℕ → Type 0 = λ k. IsFine rule code p k t in
    let Q : Shape → Type 0 = λ u. IsFine rule code p at u in
    subst P e (subst Q f (fine_here code p at s h j rule))

-- a place is fine where all that its instruction leads to is
pub fine-on : (code : Compiled) (p : Predicate) (at : ℕ) (s : Shape) (i : Instr) → IsPlaceOf code p at → slice_get code.instructions at ≡ Some i → IsJudged code at s
    → ((to : ℕ) → Leads i at to → IsFineFrom code p to (after i s)) → IsFineFrom code p at s
fine-on code p at s i h e j f zero to u q rule = fine_still code p at to s u h j q.0 q.1 rule
fine-on code p at s i h e j f (suc n) to u q rule =
    let same : q.0 ≡ i = same_instr code at q.0 i q.2 e in
    let P : Instr → Type 0 = λ k. Leads k at q.1 in
    let Q : Instr → Type 0 = λ k. Path code n q.1 (after k s) to u in
    f q.1 (subst P same q.3) n to u (subst Q same q.4) rule

-- where an instruction leads to: to the one behind it, or elsewhere
pub leads-where : (i : Instr) (at to : ℕ) → Leads i at to → ((is_inner i ≡ true) × (to ≡ at + 1)) ⊎ (elsewhere i ≡ Some to)
leads-where (Execute q) at to l = absurd l
leads-where Proceed at to l = absurd l
leads-where (Jump q) at to l = inr (ap Some (sym l))
leads-where Fail at to l = absurd l
leads-where (Try q) at to l = absurd l
leads-where (Retry q) at to l = absurd l
leads-where (Trust q) at to l = absurd l
leads-where (CheckGround v q) at to l = elim l [ inl e ↦ inl (refl, e) | inr e ↦ inr (ap Some (sym e)) ]
leads-where (CheckIndep v w q) at to l = elim l [ inl e ↦ inl (refl, e) | inr e ↦ inr (ap Some (sym e)) ]
leads-where _ at to l = inl (refl, l)

pub leads-behind : (i : Instr) (at : ℕ) → is_inner i ≡ true → Leads i at (at + 1)
leads-behind (Execute q) at h = cc
leads-behind Proceed at h = cc
leads-behind (Jump q) at h = cc
leads-behind Fail at h = cc
leads-behind (Try q) at h = cc
leads-behind (Retry q) at h = cc
leads-behind (Trust q) at h = cc
leads-behind (CheckGround v q) at h = inl refl
leads-behind (CheckIndep v w q) at h = inl refl
leads-behind _ at h = refl

pub leads-elsewhere : (i : Instr) (at l : ℕ) → elsewhere i ≡ Some l → Leads i at l
leads-elsewhere (Jump q) at l h = let same : l ≡ q = cc in same
leads-elsewhere (CheckGround v q) at l h = let same : l ≡ q = cc in inr same
leads-elsewhere (CheckIndep v w q) at l h = let same : l ≡ q = cc in inr same
leads-elsewhere _ at l h = cc

pub elsewhere-forward : (i : Instr) (at l : ℕ) → GoesOn i at → elsewhere i ≡ Some l → at < l
elsewhere-forward (Jump q) at l g h = let same : q ≡ l = cc in subst (λ k. at < k) same g
elsewhere-forward (CheckGround v q) at l g h = let same : q ≡ l = cc in subst (λ k. at < k) same g
elsewhere-forward (CheckIndep v w q) at l g h = let same : q ≡ l = cc in subst (λ k. at < k) same g
elsewhere-forward _ at l g h = cc

pub Path-append : (code : Compiled) (n m a b c : ℕ) (r s t : Shape) → Path code n a r b s → Path code m b s c t → (k : ℕ) × Path code k a r c t
Path-append code zero m a b c r s t p q =
    let P : ℕ → Type 0 = λ k. Path code m k s c t in
    let Q : Shape → Type 0 = λ u. Path code m a u c t in
    (m, subst Q (sym p.1) (subst P (sym p.0) q))
Path-append code (suc n) m a b c r s t p q =
    let rest = Path-append code n m p.1 b c (after p.0 r) s t p.4 q in
    (suc rest.0, (p.0, p.1, p.2, p.3, rest.1))

pub fails-behind : (code : Compiled) (p : Predicate) (n a b : ℕ) (r s : Shape) (e : CodeErr) → Path code n a r b s → FailsFrom code p b s e → FailsFrom code p a r e
fails-behind code p n a b r s NoMemory q f = tt
fails-behind code p n a b r s (Bad to rule) q f = let way = Path-append code n f.0 a b to r s f.1 q f.2 in (way.0, f.1, way.1, f.3)
