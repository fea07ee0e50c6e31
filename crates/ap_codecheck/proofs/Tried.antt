-- The clauses of a predicate are tried one by one: what is fine of those that are left is fine of all.
use Rattle.std.proofs.Common.{◌≡◌, ℕ, zero, suc, ◌+◌, ◌<◌, ◌≤◌, length, List, [], ◌∷◌, drop, Option, Some, refl, sym, ◌∙◌, ap, subst, inl, inr, arith}
use Rattle.std.specs.List.{slice_get}
use Rattle.std.specs.Prelude.{Result, Ok, Err, IfErr, OnOk, IfSome}
use Rattle.std.proofs.lemmas.Bool.{cases_lt}
use Rattle.ap_instr.specs.declared.instruction.Instr.{Instr}
use Rattle.ap_instr.specs.declared.instruction.Instr.TheVariants.{Fail, Try, Retry, Trust}
use Rattle.ap_instr.specs.declared.compiled.Predicate.{Predicate}
use Rattle.ap_instr.specs.Code.{Compiled}
use Rattle.ap_instr.specs.StandsFor.{tried, alternatives, clause_places}
use Rattle.ap_codecheck.specs.declared.rule.Rule.{Rule}
use Rattle.ap_codecheck.specs.declared.rule.Rule.TheVariants.{Operand, Target, Unset, Environment, Argument, Group, End, Called}
use Rattle.ap_codecheck.specs.declared.rule.CodeErr.{CodeErr}
use Rattle.ap_codecheck.specs.declared.rule.CodeErr.TheVariants.{Bad, NoMemory}
use Rattle.ap_codecheck.specs.Shape.{Shape, entry}
use Rattle.ap_codecheck.specs.Paths.{IsPlaceOf, Begins, Reaches, Awaits}
use Rattle.ap_codecheck.specs.Rules.{At, IsAlternative, IsSound}
use Rattle.ap_codecheck.specs.Judged.{IsFine, IsFineFrom, FailsFrom, AreFine, AreAwaited, ArePathsFine, others, KeepsBelow, BreaksIn, KeepsAll, KeepsAllAt}
use Rattle.ap_term.proofs.Facts.{lt-or-eq}
use Rattle.ap_term.proofs.Lists.{drop-here}

none_held : (k m : ℕ) → slice_get {X = ℕ} [] k ≡ Some m → ⊥
none_held k m e = cc

same_some : (i j : Instr) → Some i ≡ Some j → i ≡ j
same_some i j e = cc

fail_no_try : (l : ℕ) → Fail ≡ Try l → ⊥
fail_no_try l e = cc

-- a clause that fails breaks the rule in its predicate
pub fails-breaks : (code : Compiled) (p : Predicate) (l : ℕ) (e : CodeErr) → Begins code p l → FailsFrom code p l (entry p.arity) e → BreaksIn code p e
fails-breaks code p l NoMemory b f = tt
fails-breaks code p l (Bad to Unset) b f = λ k. f.3 (k f.1 (l, f.0, b, f.2))
fails-breaks code p l (Bad to Environment) b f = λ k. f.3 (k f.1 (l, f.0, b, f.2))
fails-breaks code p l (Bad to Argument) b f = λ k. f.3 (k f.1 (l, f.0, b, f.2))
fails-breaks code p l (Bad to Group) b f = λ k. f.3 (k f.1 (l, f.0, b, f.2))
fails-breaks code p l (Bad to End) b f = λ k. f.3 (k.0 f.1 (l, f.0, b, f.2))
fails-breaks code p l (Bad to Operand) b f = λ k. f.3 (λ i e. tt)
fails-breaks code p l (Bad to Target) b f = λ k. f.3 (λ i e. tt)
fails-breaks code p l (Bad to Called) b f = λ k. f.3 (λ i e. tt)

-- the first instruction of a predicate that chooses
pub record Tries (code : Compiled) (p : Predicate) : Type 0 where
  pub place : IsPlaceOf code p p.start
  pub first : ℕ
  pub tries : slice_get code.instructions p.start ≡ Some (Try first)

pub places-tried : (code : Compiled) (p : Predicate) (first : ℕ) → slice_get code.instructions p.start ≡ Some (Try first) → clause_places code p ≡ first ∷ others code p
places-tried code p first e = ap (alternatives p.start) (drop-here code.instructions p.start (Try first) e)

-- where the choices before a place have been gone through
pub record IsTrying (code : Compiled) (p : Predicate) (at : ℕ) : Type 0 where
  pub behind : p.start < at
  pub between : (k : ℕ) → p.start < k → k < at → (l : ℕ) × (slice_get code.instructions k ≡ Some (Retry l))
  pub rest : AreFine code p (tried (drop at code.instructions)) → AreFine code p (others code p)
  pub part : (k l : ℕ) → slice_get (tried (drop at code.instructions)) k ≡ Some l → (m : ℕ) × (slice_get (others code p) m ≡ Some l)

fine_more : (code : Compiled) (p : Predicate) (l : ℕ) (ls : List ℕ) → IsFineFrom code p l (entry p.arity) → AreFine code p ls → AreFine code p (l ∷ ls)
fine_more code p l ls f g zero m e =
    let same : l ≡ m = cc in
    let P : ℕ → Type 0 = λ k. IsFineFrom code p k (entry p.arity) in subst P same f
fine_more code p l ls f g (suc k) m e = g k m e

retried : (code : Compiled) (at l : ℕ) → slice_get code.instructions at ≡ Some (Retry l) → tried (drop at code.instructions) ≡ l ∷ tried (drop (at + 1) code.instructions)
retried code at l e = ap tried (drop-here code.instructions at (Retry l) e)

trusted : (code : Compiled) (at l : ℕ) → slice_get code.instructions at ≡ Some (Trust l) → tried (drop at code.instructions) ≡ l ∷ []
trusted code at l e = ap tried (drop-here code.instructions at (Trust l) e)

retry_between : (code : Compiled) (p : Predicate) (at l : ℕ) → IsTrying code p at → slice_get code.instructions at ≡ Some (Retry l) → (k : ℕ) → p.start < k → k < at + 1 → (m : ℕ) × (slice_get code.instructions k ≡ Some (Retry m))
retry_between code p at l o e k a b =
    elim (lt-or-eq k at b) as (λ _. (m : ℕ) × (slice_get code.instructions k ≡ Some (Retry m))) [
      | inl w ↦ o.between k a w
      | inr w ↦ (l, (let P : ℕ → Type 0 = λ n. slice_get code.instructions n ≡ Some (Retry l) in subst P (sym w) e))
    ]

pub trying-next : (code : Compiled) (p : Predicate) (at l : ℕ) → IsTrying code p at → slice_get code.instructions at ≡ Some (Retry l) → IsFineFrom code p l (entry p.arity) → IsTrying code p (at + 1)
trying-next code p at l o e f =
    let behind : p.start < at = o.behind in
    let P : List ℕ → Type 0 = λ ls. AreFine code p ls in
    record {
      behind = omega arith;
      between = retry_between code p at l o e;
      rest = λ g. o.rest (subst P (sym (retried code at l e)) (fine_more code p l (tried (drop (at + 1) code.instructions)) f g));
      part = λ k m h. o.part (suc k) m (ap (λ ls. slice_get ls (suc k)) (retried code at l e) ∙ h);
    }

pub trying-last : (code : Compiled) (p : Predicate) (at l : ℕ) → IsTrying code p at → slice_get code.instructions at ≡ Some (Trust l) → IsFineFrom code p l (entry p.arity) → AreFine code p (others code p)
trying-last code p at l o e f =
    let P : List ℕ → Type 0 = λ ls. AreFine code p ls in
    o.rest (subst P (sym (trusted code at l e)) (fine_more code p l [] f (λ k m h. absurd (none_held k m h))))

alternative_held : (code : Compiled) (at : ℕ) (i : Instr) → IsAlternative i → slice_get code.instructions at ≡ Some i → At code at IsAlternative
alternative_held code at i a e j f =
    let same : i ≡ j = cc in
    let P : Instr → Type 0 = λ m. IsAlternative m in subst P same a

trust_no_retry : (code : Compiled) (at l m : ℕ) → slice_get code.instructions at ≡ Some (Trust l) → slice_get code.instructions at ≡ Some (Retry m) → ⊥
trust_no_retry code at l m e f = cc

awaited_before : (code : Compiled) (p : Predicate) (at l b : ℕ) → IsTrying code p at → IsPlaceOf code p at → slice_get code.instructions at ≡ Some (Trust l) → Awaits code p b → b ≤ at → IsPlaceOf code p b × At code b IsAlternative
awaited_before code p at l b o h e w le =
    let behind : p.start < b = w.behind in
    let before : at < p.end = h.before in
    let held : at < length code.instructions = h.held in
    let place : IsPlaceOf code p b = record { from = omega arith; before = omega arith; held = omega arith } in
    let less : b < at + 1 = omega arith in
    elim (lt-or-eq b at less) as (λ _. IsPlaceOf code p b × At code b IsAlternative) [
      | inl z ↦ (let found = o.between b w.behind z in (place, alternative_held code b (Retry found.0) tt found.1))
      | inr z ↦ (let P : ℕ → Type 0 = λ n. slice_get code.instructions n ≡ Some (Trust l) in (place, alternative_held code b (Trust l) tt (subst P (sym z) e)))
    ]

pub trying-awaited : (code : Compiled) (p : Predicate) (at l : ℕ) → IsTrying code p at → IsPlaceOf code p at → slice_get code.instructions at ≡ Some (Trust l) → AreAwaited code p
trying-awaited code p at l o h e b w =
    elim (cases_lt at b) as (λ _. IsPlaceOf code p b × At code b IsAlternative) [
      | inl z ↦ (let found = w.between at o.behind z in absurd (trust_no_retry code at l found.0 e found.1))
      | inr z ↦ awaited_before code p at l b o h e w z
    ]

pub retry-first : (code : Compiled) (at l : ℕ) → slice_get code.instructions at ≡ Some (Retry l) → slice_get (tried (drop at code.instructions)) 0 ≡ Some l
retry-first code at l e = ap (λ ls. slice_get ls 0) (retried code at l e)

pub trust-first : (code : Compiled) (at l : ℕ) → slice_get code.instructions at ≡ Some (Trust l) → slice_get (tried (drop at code.instructions)) 0 ≡ Some l
trust-first code at l e = ap (λ ls. slice_get ls 0) (trusted code at l e)

awaits : (code : Compiled) (p : Predicate) (at first : ℕ) → IsTrying code p at → slice_get code.instructions p.start ≡ Some (Try first) → Awaits code p at
awaits code p at first o t = record { first = first; tries = t; behind = o.behind; between = o.between }

pub trying-stray : (code : Compiled) (p : Predicate) (at first : ℕ) (i : Instr) → IsTrying code p at → slice_get code.instructions p.start ≡ Some (Try first) → slice_get code.instructions at ≡ Some i → (IsAlternative i → ⊥) → BreaksIn code p (Bad at End)
trying-stray code p at first i o t e no_alternative = λ k. no_alternative ((k.1 (awaits code p at first o t)).1 i e)

-- a predicate of one clause, or none
pub alternatives_one : (at : ℕ) (i : Instr) (is : List Instr) → ((l : ℕ) → i ≡ Try l → ⊥) → (i ≡ Fail → ⊥) → alternatives at (i ∷ is) ≡ at ∷ []
alternatives_one at (Try l) is f g = absurd (f l refl)
alternatives_one at Fail is f g = absurd (g refl)
alternatives_one at _ is f g = refl

pub places-one : (code : Compiled) (p : Predicate) (i : Instr) → slice_get code.instructions p.start ≡ Some i → ((l : ℕ) → i ≡ Try l → ⊥) → (i ≡ Fail → ⊥) → clause_places code p ≡ p.start ∷ []
places-one code p i e f g =
    ap (alternatives p.start) (drop-here code.instructions p.start i e) ∙ alternatives_one p.start i (drop (p.start + 1) code.instructions) f g

pub places-none : (code : Compiled) (p : Predicate) → slice_get code.instructions p.start ≡ Some Fail → clause_places code p ≡ []
places-none code p e = ap (alternatives p.start) (drop-here code.instructions p.start Fail e)

none_awaited : (code : Compiled) (p : Predicate) (i : Instr) → slice_get code.instructions p.start ≡ Some i → ((l : ℕ) → i ≡ Try l → ⊥) → AreAwaited code p
none_awaited code p i e f at w = absurd (f w.first (same_some i (Try w.first) (sym e ∙ w.tries)))

pub paths-one : (code : Compiled) (p : Predicate) (i : Instr) → IsPlaceOf code p p.start → slice_get code.instructions p.start ≡ Some i → ((l : ℕ) → i ≡ Try l → ⊥) → (i ≡ Fail → ⊥) → IsFineFrom code p p.start (entry p.arity) → ArePathsFine code p
paths-one code p i h e f g fine =
    let P : List ℕ → Type 0 = λ ls. AreFine code p ls in
    record {
      clauses = subst P (sym (places-one code p i e f g)) (fine_more code p p.start [] fine (λ k m z. absurd (none_held k m z)));
      awaited = none_awaited code p i e f;
      start = h;
    }

pub paths-none : (code : Compiled) (p : Predicate) → IsPlaceOf code p p.start → slice_get code.instructions p.start ≡ Some Fail → ArePathsFine code p
paths-none code p h e =
    let P : List ℕ → Type 0 = λ ls. AreFine code p ls in
    record {
      clauses = subst P (sym (places-none code p e)) (λ k m z. absurd (none_held k m z));
      awaited = none_awaited code p Fail e (λ l z. fail_no_try l z);
      start = h;
    }

pub paths-tried : (code : Compiled) (p : Predicate) (first : ℕ) → IsPlaceOf code p p.start → slice_get code.instructions p.start ≡ Some (Try first) → IsFineFrom code p first (entry p.arity) → AreFine code p (others code p) → AreAwaited code p → ArePathsFine code p
paths-tried code p first h e fine more awaited =
    let P : List ℕ → Type 0 = λ ls. AreFine code p ls in
    record {
      clauses = subst P (sym (places-tried code p first e)) (fine_more code p first (others code p) fine more);
      awaited = awaited;
      start = h;
    }

pub begins-first : (code : Compiled) (p : Predicate) (l : ℕ) → slice_get code.instructions p.start ≡ Some (Try l) → Begins code p l
begins-first code p l e = (0, ap (λ ls. slice_get ls 0) (places-tried code p l e))

pub begins-one : (code : Compiled) (p : Predicate) (i : Instr) → slice_get code.instructions p.start ≡ Some i → ((l : ℕ) → i ≡ Try l → ⊥) → (i ≡ Fail → ⊥) → Begins code p p.start
begins-one code p i e f g = (0, ap (λ ls. slice_get ls 0) (places-one code p i e f g))

pub begins-other : (code : Compiled) (p : Predicate) (at l first : ℕ) → IsTrying code p at → slice_get code.instructions p.start ≡ Some (Try first) → slice_get (tried (drop at code.instructions)) 0 ≡ Some l → Begins code p l
begins-other code p at l first o t h =
    let found = o.part 0 l h in
    (suc found.0, ap (λ ls. slice_get ls (suc found.0)) (places-tried code p first t) ∙ found.1)

pub no_alternative : (i : Instr) → ((l : ℕ) → i ≡ Retry l → ⊥) → ((l : ℕ) → i ≡ Trust l → ⊥) → IsAlternative i → ⊥
no_alternative (Retry l) f g a = f l refl
no_alternative (Trust l) f g a = g l refl
no_alternative _ f g a = a

-- the places that the predicate's choices name are behind its start
pub retry-behind : (code : Compiled) (p : Predicate) (at l : ℕ) → KeepsBelow code p p.end → IsPlaceOf code p at → slice_get code.instructions at ≡ Some (Retry l) → p.start ≤ l
retry-behind code p at l b h e = (b Target at h h.before (Retry l) e).from

pub trust-behind : (code : Compiled) (p : Predicate) (at l : ℕ) → KeepsBelow code p p.end → IsPlaceOf code p at → slice_get code.instructions at ≡ Some (Trust l) → p.start ≤ l
trust-behind code p at l b h e = (b Target at h h.before (Trust l) e).from

pub try-behind : (code : Compiled) (p : Predicate) (at l : ℕ) → KeepsBelow code p p.end → IsPlaceOf code p at → slice_get code.instructions at ≡ Some (Try l) → p.start ≤ l
try-behind code p at l b h e = (b Target at h h.before (Try l) e).from

pub err_more : {T : Type 0} (r : Result T CodeErr) (P Q : CodeErr → Type 0) → ((e : CodeErr) → P e → Q e) → IfErr r P → IfErr r Q
err_more (Ok x) P Q f h = tt
err_more (Err e) P Q f h = f e h

-- a predicate whose operands and paths are fine keeps every rule
reached_fine : (code : Compiled) (p : Predicate) (at : ℕ) (s : Shape) → ArePathsFine code p → Reaches code p at s → (rule : Rule) → IsFine rule code p at s
reached_fine code p at s h r rule = h.clauses r.2.0 r.0 r.2.1 r.1 at s r.3 rule

pub keeps-all : (code : Compiled) (p : Predicate) → KeepsBelow code p p.end → ArePathsFine code p → KeepsAll code p
keeps-all code p b h Operand at = λ place i e. b Operand at place place.before i e
keeps-all code p b h Target at = λ place i e. b Target at place place.before i e
keeps-all code p b h Called at = λ place i e. b Called at place place.before i e
keeps-all code p b h Unset at = λ s r. reached_fine code p at s h r Unset
keeps-all code p b h Environment at = λ s r. reached_fine code p at s h r Environment
keeps-all code p b h Argument at = λ s r. reached_fine code p at s h r Argument
keeps-all code p b h Group at = λ s r. reached_fine code p at s h r Group
keeps-all code p b h End at =
    (λ s r. reached_fine code p at s h r End, h.awaited at, λ e. (let P : ℕ → Type 0 = λ k. IsPlaceOf code p k in subst P (sym e) h.start))

pub sound-all : (code : Compiled) → IfSome code.query (λ q. q < length code.predicates) → ((number : ℕ) → KeepsAllAt code number) → IsSound code
sound-all code q h rule at = record { each = λ number p e. h number p e rule at; query = λ _ _. q }

pub query-known : (code : Compiled) (number : ℕ) → IsSound code → code.query ≡ Some number → number < length code.predicates
query-known code number h e =
    let P : Option ℕ → Type 0 = λ o. IfSome o (λ q. q < length code.predicates) in
    subst P e ((h Called (length code.instructions)).query refl refl)

same_predicate : (a b : Predicate) → Some a ≡ Some b → a ≡ b
same_predicate a b e = cc

pub ok_both : {T E : Type 0} (r : Result T E) (P Q R : Type 0) → (P → Q → R) → OnOk r P → OnOk r Q → OnOk r R
ok_both (Ok x) P Q R f h k = f h k
ok_both (Err e) P Q R f h k = tt
