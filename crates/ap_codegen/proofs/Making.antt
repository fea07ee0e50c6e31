-- Predicates made one after another.
use Rattle.std.proofs.Common.{◌≡◌, ℕ, zero, suc, ◌+◌, ◌<◌, ◌≤◌, true, not, if◌then◌else◌, ◌⊎◌, inl, inr, List, [], ◌∷◌, ◌++◌, map, length, take, get_or, slice_get, Some, None, IfSome, refl, ap, sym, ◌∙◌, subst, arith, append_assoc}
use Rattle.std.specs.List.{IsDistinct, filter}
use Rattle.std.proofs.lemmas.List.{map-append, take_more, take_all}
use Rattle.std.proofs.lemmas.Option.{slice_get_within}
use Rattle.std.proofs.lemmas.Bool.{false≢true, not_from_true}
use Rattle.ap_term.specs.Goals.{Clause, Program}
use Rattle.ap_term.proofs.Lists.{filter-push}
use Rattle.ap_instr.specs.declared.instruction.Instr.{Instr}
use Rattle.ap_instr.specs.declared.instruction.Instr.TheVariants.{Call, Execute}
use Rattle.ap_instr.specs.declared.compiled.Predicate.{Predicate}
use Rattle.ap_instr.specs.Builtin.{builtin_name}
use Rattle.ap_instr.specs.Step.{call, execute, with_predicate, step_of as said_by}
use Rattle.ap_codegen.specs.CodeOf.{calls_apart}
use Rattle.ap_instr.specs.Code.{Compiled}
use Rattle.ap_instr.specs.StandsFor.{IsOfClauses, IsOfBuiltin, called_by}
use Rattle.ap_instr.specs.Groups.{rest_of, AsksUnmarked}
use Rattle.ap_instr.specs.Table.{Key, is_key, key_of, predicates_of, AreTiled}
use Rattle.ap_tracked.specs.Tracked.{IsOneOf}
use Rattle.ap_codegen.specs.Assembled.{Numbered, Grows, Holds, Keeps, AreCallsApart, AreSequences, AreInstructionsOf, AreCoded, chosen, choices, together, heads, clauses_for, IsStanding, IsBlock, IsMade, StandsBeside}
use Rattle.ap_codegen.specs.Permanent.{is_builtin_key}
use Rattle.ap_codegen.proofs.Growing.{push_get, holds_less}
use Rattle.ap_codecheck.proofs.Walked.{laid-sound}
use Rattle.ap_codegen.proofs.Straight.{both_sequences, sequence_at}
use Rattle.ap_codegen.proofs.Laying.{length_both}
use Rattle.ap_codegen.proofs.Blocks.{both_apart, builtin_key}
use Rattle.ap_codegen.specs.Heads.{with_heads}
use Rattle.ap_codegen.proofs.Heads.{tiled_push, heads_first, take_map, kept_first, keys_same}

get_some : {A : Type 0} (xs : List A) (i : ℕ) → i < length xs → (x : A) × (slice_get xs i ≡ Some x)
get_some [] i l = absurd (omega arith)
get_some (x ∷ xs) zero l = (x, refl)
get_some (x ∷ xs) (suc i) l = get_some xs i (omega arith)

none_beyond : {A : Type 0} (xs : List A) (n i : ℕ) → slice_get xs n ≡ None → n ≤ i → slice_get xs i ≡ None
none_beyond [] n i e l = refl
none_beyond (x ∷ xs) zero i e l = cc
none_beyond (x ∷ xs) (suc n) zero e l = absurd (omega arith)
none_beyond (x ∷ xs) (suc n) (suc i) e l = none_beyond xs n i e (omega arith)

-- one more predicate
pub made_more : (t u : Numbered) (is is' own : List Instr) (qs qs' : List Predicate) (q : Predicate) (k : ℕ × ℕ) (p : Program) → Grows t u → IsBlock u is own k p → is' ≡ is ++ own
    → q.name ≡ k.0 → q.arity ≡ k.1 → q.start ≡ length is → q.end ≡ length is' → qs' ≡ qs ++ q ∷ [] → slice_get t.predicates (length qs) ≡ Some k → IsMade t is qs p → IsMade u is' qs' p
made_more t u is is' own qs qs' q k p g block ei n a s en eq here made = record { named = named; stands = stands; tiled = tiled; sequences = sequences; apart = apart }
  where
    at : (m : ℕ) (r : Predicate) → slice_get qs' m ≡ Some r → (slice_get qs m ≡ Some r) ⊎ ((m ≡ length qs) × (q ≡ r))
    at m r e = push_get qs q r m (ap (λ l. slice_get l m) (sym eq) ∙ e)

    key : k ≡ (q.name, q.arity)
    key = ap (λ m. (m, k.1)) (sym n) ∙ ap (λ m. (q.name, m)) (sym a)

    named : (m : ℕ) (r : Predicate) → slice_get qs' m ≡ Some r → slice_get u.predicates m ≡ Some (r.name, r.arity)
    named m r e = elim (at m r e) [
      | inl h ↦ g.predicates m (r.name, r.arity) (made.named m r h)
      | inr h ↦ ap (slice_get u.predicates) h.0 ∙ g.predicates (length qs) k here ∙ ap Some key ∙ ap (λ r. Some (r.name, r.arity)) h.1
    ]

    whole : (code : Compiled) (later : List Instr) → code.instructions ≡ is' ++ later → code.instructions ≡ is ++ (own ++ later)
    whole code later e = e ∙ ap (λ l. l ++ later) ei ∙ append_assoc is own later

    stands : (code : Compiled) (later : List Instr) → Holds u code → code.instructions ≡ is' ++ later → (m : ℕ) (r : Predicate) → slice_get qs' m ≡ Some r → IsStanding code p r
    stands code later h e m r d = elim (at m r d) [
      | inl f ↦ made.stands code (own ++ later) (holds_less t u code g h) (whole code later e) m r f
      | inr f ↦ subst (IsStanding code p) f.1 (block.stands code later h (whole code later e) q n a s (en ∙ ap length ei))
    ]

    tiled : AreTiled 0 qs' (length is')
    tiled =
        subst (λ qs. AreTiled 0 qs (length is')) (sym eq)
        (tiled_push 0 qs q (length is) (length is') made.tiled s (let n = length_both is own in let m = ap length ei in omega (arith, n, m)) en)

    sequences : (code : Compiled) (later : List Instr) → Holds u code → code.instructions ≡ is' ++ later → AreSequences code 0 is'
    sequences code later h e =
        subst (AreSequences code 0) (sym ei)
        (both_sequences code 0 is own (made.sequences code (own ++ later) (holds_less t u code g h) (whole code later e))
        (subst (λ n. AreSequences code n own) (let z : length is ≡ 0 + length is = omega arith in z) (block.sequences code later h (whole code later e))))

    apart : (code : Compiled) → Holds u code → AreCallsApart code is'
    apart code h = subst (AreCallsApart code) (sym ei) (both_apart code is own (made.apart code (holds_less t u code g h)) (block.apart code h))

-- ---- calls

apart_at : (code : Compiled) (is : List Instr) (j : ℕ) (i : Instr) → AreCallsApart code is → slice_get is j ≡ Some i → calls_apart (said_by code i) ≡ true
apart_at code [] j i h e = cc
apart_at code (k ∷ is) zero i h e = let same : k ≡ i = cc in subst (λ i. calls_apart (said_by code i) ≡ true) same h.0
apart_at code (k ∷ is) (suc j) i h e = apart_at code is j i h.1 e

-- a predicate that is called is none of built-in goals
called_apart : (code : Compiled) (i : Instr) (n : ℕ) (q : Predicate) → calls_apart (said_by code i) ≡ true → called_by i ≡ Some n → slice_get code.predicates n ≡ Some q → not (is_builtin_key (q.name, q.arity)) ≡ true
called_apart code (Call m) n q h c e =
    let same : m ≡ n = cc in
    let f : slice_get code.predicates m ≡ Some q = ap (slice_get code.predicates) same ∙ e in
    ap (λ o. calls_apart (with_predicate o call)) (sym f) ∙ h
called_apart code (Execute m) n q h c e =
    let same : m ≡ n = cc in
    let f : slice_get code.predicates m ≡ Some q = ap (slice_get code.predicates) same ∙ e in
    ap (λ o. calls_apart (with_predicate o execute)) (sym f) ∙ h
called_apart code _ n q h c e = absurd (cc)

of_clauses : (code : Compiled) (p : Program) (q : Predicate) → IsOfClauses code p q ⊎ IsOfBuiltin code q → not (is_builtin_key (q.name, q.arity)) ≡ true → IsOfClauses code p q
of_clauses code p q (inl h) e = h
of_clauses code p q (inr h) e =
    let k : is_builtin_key (q.name, q.arity) ≡ true = ap (λ n. is_builtin_key (n, q.arity)) (sym h.name) ∙ ap (λ n. is_builtin_key (builtin_name h.goal, n)) (sym h.arity) ∙ builtin_key h.goal in
    absurd (false≢true (sym (not_from_true (is_builtin_key (q.name, q.arity)) k) ∙ e))

-- where all predicates are made, the code stands for the program
pub made_all : (t : Numbered) (is : List Instr) (qs : List Predicate) (p : Program) (code : Compiled) (m : ℕ) (k : ℕ × ℕ) → IsMade t is qs p → slice_get t.predicates (length qs) ≡ None
    → slice_get t.predicates m ≡ Some k → code.instructions ≡ is → code.integers ≡ t.integers → code.predicates ≡ qs → code.query ≡ Some m
    → (own : Program) (first : List Key) → first ≡ with_heads [] own → Keeps first t.predicates → ((j : Key) → IsOneOf j (predicates_of p) → IsOneOf j t.predicates)
    → IsDistinct is_key t.predicates → filter (λ q. q.is_listed) qs ≡ take (length first) qs → StandsBeside code k own p
made_all t is qs p code m k made ended at ei ez eq em own first e1 kept has once flags = record {
  number = m;
  predicate = q.0;
  is_query = em;
  held = q.1;
  named = q.2;
  arity = q.3;
  stands = record {
    predicates = λ n r e. (standing n r e).0;
    calls = λ i n j r e f d. of_clauses code p r (standing n r d).0 (called_apart code j n r (apart_at code is i j (made.apart code holds) (ap (λ is. slice_get is i) (sym ei) ∙ e)) f d);
    sequences = λ i l j e o.
        let n : 0 + i ≡ i = omega arith in
        subst (λ n. AsksUnmarked code (rest_of j n) l) n (sequence_at code 0 is i l j (made.sequences code [] holds whole) (ap (λ is. slice_get is i) (sym ei) ∙ e) o);
  };
  whole = record {
    has = λ j h. subst (IsOneOf j) (sym keys) (has j h);
    once = subst (IsDistinct is_key) (sym keys) once;
    listed =
        ap (λ qs. map key_of (filter (λ q. q.is_listed) qs)) eq
        ∙ ap (map key_of) flags
        ∙ take_map key_of (length first) qs
        ∙ ap (take (length first)) same
        ∙ kept_first first t.predicates kept
        ∙ e1
        ∙ heads_first own;
    tiled = subst (λ qs. AreTiled 0 qs (length code.instructions)) (sym eq) (subst (λ is. AreTiled 0 qs (length is)) (sym ei) made.tiled);
  };
  sound =
      laid-sound code (λ n r e. (standing n r e).1)
      (subst (λ o. IfSome o (λ n. n < length code.predicates)) (sym em) (slice_get_within code.predicates m q.0 q.1));
}
  where
    same : map key_of qs ≡ t.predicates
    same = keys_same qs t.predicates made.named ended

    keys : map key_of code.predicates ≡ t.predicates
    keys = ap (map key_of) eq ∙ same

    append_nil : {A : Type 0} (xs : List A) → xs ++ [] ≡ xs
    append_nil [] = refl
    append_nil (x ∷ xs) = ap (λ l. x ∷ l) (append_nil xs)

    below : (i : ℕ) (j : ℕ × ℕ) → slice_get t.predicates i ≡ Some j → i < length qs
    below i j e = go (le_or_lt (length qs) i)
      where
        le_or_lt : (a b : ℕ) → (a ≤ b) ⊎ (b < a)
        le_or_lt zero b = inl (omega arith)
        le_or_lt (suc a) zero = inr (omega arith)
        le_or_lt (suc a) (suc b) = elim (le_or_lt a b) [ inl h ↦ inl (omega arith) | inr h ↦ inr (omega arith) ]

        go : (length qs ≤ i) ⊎ (i < length qs) → i < length qs
        go (inl h) = absurd (let d : slice_get t.predicates i ≡ None = none_beyond t.predicates (length qs) i ended h in cc)
        go (inr h) = h

    entry : (i : ℕ) (j : ℕ × ℕ) → slice_get t.predicates i ≡ Some j → (q : Predicate) × (slice_get code.predicates i ≡ Some q) × (q.name ≡ j.0) × (q.arity ≡ j.1)
    entry i j e =
        let q = get_some qs i (below i j e) in
        let d : Some j ≡ Some (q.0.name, q.0.arity) = sym e ∙ made.named i q.0 q.1 in
        let f : j ≡ (q.0.name, q.0.arity) = cc in
        (q.0, ap (λ l. slice_get l i) eq ∙ q.1, sym (ap (λ k. k.0) f), sym (ap (λ k. k.1) f))

    holds : Holds t code
    holds = record { integers = λ i z e. ap (λ l. slice_get l i) ez ∙ e; predicates = entry }

    whole : code.instructions ≡ is ++ []
    whole = ei ∙ sym (append_nil is)

    standing : (n : ℕ) (r : Predicate) → slice_get code.predicates n ≡ Some r → IsStanding code p r
    standing n r e = made.stands code [] holds whole n r (ap (λ l. slice_get l n) (sym eq) ∙ e)

    q : (q : Predicate) × (slice_get code.predicates m ≡ Some q) × (q.name ≡ k.0) × (q.arity ≡ k.1)
    q = entry m k at

-- ---- the codes of a predicate's clauses

clauses_take : (k : ℕ × ℕ) (cs : Program) (i : ℕ) (c : Clause) → i < length cs → c ≡ get_or cs i c
    → clauses_for k (take (i + 1) cs) ≡ (if heads k c.head then clauses_for k (take i cs) ++ c ∷ [] else clauses_for k (take i cs))
clauses_take k cs i c l e = ap (clauses_for k) (take_more cs i c l) ∙ ap (λ d. clauses_for k (take i cs ++ d ∷ [])) (sym e) ∙ filter-push (λ c. heads k c.head) (take i cs) c

-- one more clause in the index
pub index_turn : (k : ℕ × ℕ) (cs : Program) (i : ℕ) (c : Clause) (old new : Program) → i < length cs → c ≡ get_or cs i c → new ≡ (if heads k c.head then old ++ c ∷ [] else old)
    → old ≡ clauses_for k (take i cs) → new ≡ clauses_for k (take (i + 1) cs)
index_turn k cs i c old new l e n o = n ∙ ap (λ p. if heads k c.head then p ++ c ∷ [] else p) o ∙ sym (clauses_take k cs i c l e)

pub index_end : (k : ℕ × ℕ) (cs : Program) (i : ℕ) (old : Program) → length cs ≤ i → old ≡ clauses_for k (take i cs) → old ≡ clauses_for k cs
index_end k cs i old l o = o ∙ ap (clauses_for k) (take_all i cs l)

coded_push : (code : Compiled) (at : ℕ) (bs : List (List Instr)) (cs : List Clause) (is : List Instr) (c : Clause) → AreCoded code at bs cs → AreInstructionsOf code (at + length (together bs)) c is → AreCoded code at (bs ++ is ∷ []) (cs ++ c ∷ [])
coded_push code at [] [] is c h i = (let e : at + 0 ≡ at = omega arith in subst (λ n. AreInstructionsOf code n c is) e i, tt)
coded_push code at [] (d ∷ cs) is c h i = absurd h
coded_push code at (b ∷ bs) [] is c h i = absurd h
coded_push code at (b ∷ bs) (d ∷ cs) is c h i =
    let n = length_both b (together bs) in
    let e : at + length (together (b ∷ bs)) ≡ at + length b + length (together bs) = omega (arith, n) in
    (h.0, coded_push code (at + length b) bs cs is c h.1 (subst (λ n. AreInstructionsOf code n c is) e i))

pub together_push : (at : ℕ) (bs : List (List Instr)) (is : List Instr) → at + length (together bs) + length is ≡ at + length (together (bs ++ is ∷ []))
together_push at [] is = let n = length_both is [] in omega (arith, n)
together_push at (b ∷ bs) is =
    let n = length_both b (together bs) in
    let m = length_both b (together (bs ++ is ∷ [])) in
    let e = together_push (at + length b) bs is in
    omega (arith, n, m, e)

-- one more clause's code
module _ {R : Type 0} (now : R → Clause) {V : Type 0} (items : V → List Instr) where
  pub codes_turn : (rs : List R) (i : ℕ) (r : R) (s t u : Numbered) (vs new : List V) (v : V) (first at : ℕ) → i < length rs → r ≡ get_or rs i r → Grows s t → Grows t u → new ≡ vs ++ v ∷ []
      → at ≡ first + length (together (map items vs)) → ((code : Compiled) → Holds u code → AreInstructionsOf code at (now r) (items v)) → ((code : Compiled) → Holds t code → AreCoded code first (map items vs) (map now (take i rs)))
      → (code : Compiled) → Holds u code → AreCoded code first (map items new) (map now (take (i + 1) rs))
  codes_turn rs i r s t u vs new v first at l e f g en place d a code x =
      let codes : map items new ≡ map items vs ++ items v ∷ [] = ap (map items) en ∙ map-append items vs (v ∷ []) in
      let clauses : map now (take (i + 1) rs) ≡ map now (take i rs) ++ now r ∷ [] =
      ap (map now) (take_more rs i r l ∙ ap (λ q. take i rs ++ q ∷ []) (sym e)) ∙ map-append now (take i rs) (r ∷ []) in
      subst (λ bs. AreCoded code first bs (map now (take (i + 1) rs))) (sym codes)
      (subst (AreCoded code first (map items vs ++ items v ∷ [])) (sym clauses)
      (coded_push code first (map items vs) (map now (take i rs)) (items v) (now r) (a code (holds_less t u code g x)) (subst (λ n. AreInstructionsOf code n (now r) (items v)) place (d code x))))

  -- where the next clause begins
  pub place_turn : (vs new : List V) (v : V) (first at : ℕ) → new ≡ vs ++ v ∷ [] → at ≡ first + length (together (map items vs)) → at + length (items v) ≡ first + length (together (map items new))
  place_turn vs new v first at en place =
      ap (λ n. n + length (items v)) place ∙ together_push first (map items vs) (items v) ∙ ap (λ bs. first + length (together bs)) (sym (ap (map items) en ∙ map-append items vs (v ∷ [])))

  pub codes_end : (rs : List R) (i : ℕ) (vs : List V) (code : Compiled) (first : ℕ) → length rs ≤ i → AreCoded code first (map items vs) (map now (take i rs)) → AreCoded code first (map items vs) (map now rs)
  codes_end rs i vs code first l h = subst (λ ds. AreCoded code first (map items vs) (map now ds)) (take_all i rs l) h

module _ {V : Type 0} (now : V → List Instr) where
  pub length_codes : (vs : List V) → length (map now vs) ≡ length vs
  length_codes [] = refl
  length_codes (v ∷ vs) = ap suc (length_codes vs)

  pub laid_is : (slice codes : List V) (is is' : List Instr) → slice ≡ codes → is' ≡ is ++ (choices (length is + chosen (length slice)) (map now slice) ++ together (map now slice))
      → is' ≡ is ++ (choices (length is + chosen (length (map now codes))) (map now codes) ++ together (map now codes))
  laid_is slice codes is is' e f =
      f ∙ ap (λ vs. is ++ (choices (length is + chosen (length vs)) (map now vs) ++ together (map now vs))) e
      ∙ ap (λ n. is ++ (choices (length is + chosen n) (map now codes) ++ together (map now codes))) (sym (length_codes codes))
