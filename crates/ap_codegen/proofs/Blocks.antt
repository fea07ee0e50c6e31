-- The instructions of a predicate behind others: those of its clauses, with choice instructions before them, or its built-in goal.
use Rattle.std.proofs.Common.{◌≡◌, ℕ, zero, suc, ◌+◌, ◌<◌, ◌≤◌, nat_le, ◌==◌, Bool, true, false, ◌&&◌, ◌||◌, is_some, if◌then◌else◌, Option, Some, None, inl, inr, List, [], ◌∷◌, ◌++◌, length, drop, take, refl, ap, sym, ◌∙◌, subst, arith, append_assoc}
use Rattle.std.specs.List.{AllZip, filter, slice_get}
use Rattle.std.proofs.lemmas.Bool.{false≢true}
use Rattle.std.proofs.lemmas.Bool.Decides.{Decides-eqb, nat_tests}
use Rattle.ap_term.specs.declared.builtins.Op.{Op}
use Rattle.ap_term.specs.declared.builtins.Op.TheVariants.{Eq, Ne, Lt, Gt, Le, Ge}
use Rattle.ap_term.specs.declared.builtins.Relation.{Relation as Related}
use Rattle.ap_term.specs.declared.builtins.Relation.TheVariants.{Unify, NotUnify, Same, NotSame, Is, Compare}
use Rattle.ap_term.specs.declared.fixed.TheConstants.{TRUE, FAIL}
use Rattle.ap_term.specs.Tree.{Tree, Trees, var, int, atom, node, none, more, count_trees}
use Rattle.ap_term.specs.Substitution.{Subst}
use Rattle.ap_term.specs.Builtins.{relation_named, named_answer, builtin}
use Rattle.ap_term.specs.Goals.{Clause, Program}
use Rattle.ap_instr.specs.declared.instruction.Instr.{Instr}
use Rattle.ap_instr.specs.declared.instruction.Instr.TheVariants.{Proceed, Try, Builtin as BuiltinGoal}
use Rattle.ap_instr.specs.declared.builtins.Builtin.{Builtin}
use Rattle.ap_instr.specs.declared.builtins.Builtin.TheVariants.{True, Fail, Relation}
use Rattle.ap_instr.specs.declared.compiled.Predicate.{Predicate}
use Rattle.ap_instr.specs.Builtin.{builtin_name, builtin_arity}
use Rattle.ap_instr.specs.Code.{Compiled}
use Rattle.ap_instr.specs.Runs.{applied}
use Rattle.ap_instr.specs.StandsFor.{is_head_of, clauses_of, ReadsAt, alternatives, clause_places}
use Rattle.ap_codecheck.specs.Shape.{entry}
use Rattle.ap_codecheck.specs.Paths.{IsPlaceOf}
use Rattle.ap_codecheck.specs.Rules.{InRange, GoesInside, CallsKnown, At}
use Rattle.ap_codecheck.specs.Walk.{Walks, WalksFrom}
use Rattle.ap_codegen.specs.Permanent.{is_builtin_key}
use Rattle.ap_codegen.specs.Assembled.{Numbered, Holds, AreCallsApart, AreSequences, AreCoded, retries, choices, chosen, together, heads, clauses_for, IsStanding, IsBlock}
use Rattle.ap_codegen.proofs.Placed.{drop_append, block_read, block_sequences}
use Rattle.ap_codegen.proofs.Laying.{length_both, take_front, rest, get_behind, block_laid}

-- ---- calls

pub both_apart : (code : Compiled) (is js : List Instr) → AreCallsApart code is → AreCallsApart code js → AreCallsApart code (is ++ js)
both_apart code [] js h k = k
both_apart code (i ∷ is) js h k = (h.0, both_apart code is js h.1 k)

retries_apart : (code : Compiled) (at : ℕ) (bs : List (List Instr)) → AreCallsApart code (retries at bs)
retries_apart code at [] = tt
retries_apart code at (is ∷ []) = (refl, tt)
retries_apart code at (is ∷ b ∷ bs) = (refl, retries_apart code (at + length is) (b ∷ bs))

choices_apart : (code : Compiled) (at : ℕ) (bs : List (List Instr)) → AreCallsApart code (choices at bs)
choices_apart code at [] = (refl, tt)
choices_apart code at (is ∷ []) = tt
choices_apart code at (is ∷ b ∷ bs) = (refl, retries_apart code (at + length is) (b ∷ bs))

together_apart : (code : Compiled) (at : ℕ) (bs : List (List Instr)) (cs : List Clause) → AreCoded code at bs cs → AreCallsApart code (together bs)
together_apart code at [] cs h = tt
together_apart code at (is ∷ bs) [] h = absurd h
together_apart code at (is ∷ bs) (c ∷ cs) h = both_apart code is (together bs) h.0.apart (together_apart code (at + length is) bs cs h.1)

-- ---- names

turned : (m n : ℕ) → (m == n) ≡ (n == m)
turned m n = go (m == n) (n == m) refl refl
  where
    go : (b c : Bool) → (m == n) ≡ b → (n == m) ≡ c → b ≡ c
    go true true e f = refl
    go true false e f = absurd (false≢true (sym f ∙ (Decides-eqb n m).1 (sym ((Decides-eqb m n).0 e))))
    go false true e f = absurd (false≢true (sym e ∙ (Decides-eqb m n).1 (sym ((Decides-eqb n m).0 f))))
    go false false e f = refl

same_head : (q : Predicate) (t : Tree) → is_head_of q t ≡ heads (q.name, q.arity) t
same_head q (var x) = refl
same_head q (int z) = refl
same_head q (atom a) = ap (λ b. (a == q.name) && b) (turned q.arity 0)
same_head q (node a ts) = refl

same_clauses : (q : Predicate) (k : ℕ × ℕ) (p : Program) → q.name ≡ k.0 → q.arity ≡ k.1 → clauses_of q p ≡ clauses_for k p
same_clauses q k p n a =
    let e : clauses_of q p ≡ clauses_for (q.name, q.arity) p = λ i. filter (λ c. same_head q c.head i) p in
    e ∙ ap (λ m. clauses_for (m, q.arity) p) n ∙ ap (λ m. clauses_for (k.0, m) p) a

abbrev control_answer : Bool → Bool → Option (Option Subst)
control_answer b d = if b then Some (Some []) else (if d then Some None else None)

-- a goal whose name and number of arguments are none of built-in goals is none
no_builtin : (a : ℕ) (ts : Trees) → is_builtin_key (a, count_trees ts) ≡ false → builtin (applied a ts) ≡ None
no_builtin a none e = go (a == TRUE) (a == FAIL) (is_some (relation_named a)) e
  where
    go : (b d k : Bool) → (((b || d) && true) || (k && false)) ≡ false → control_answer b d ≡ None
    go true d k e = absurd (false≢true (sym e))
    go false true k e = absurd (false≢true (sym e))
    go false false k e = refl
no_builtin a (more t none) e = refl
no_builtin a (more t (more u none)) e = go (relation_named a) ((a == TRUE) || (a == FAIL)) e
  where
    go : (o : Option Related) (b : Bool) → ((b && false) || (is_some o && true)) ≡ false → named_answer o t u ≡ None
    go None b e = refl
    go (Some r) true e = absurd (false≢true (sym e))
    go (Some r) false e = absurd (false≢true (sym e))
no_builtin a (more t (more u (more v ts))) e = refl

-- a built-in goal's name and arity are those of one
pub builtin_key : (b : Builtin) → is_builtin_key (builtin_name b, builtin_arity b) ≡ true
builtin_key True = refl
builtin_key Fail = refl
builtin_key (Relation r) = related r
  where
    compared : (o : Op) → is_builtin_key (builtin_name (Relation (Compare o)), 2) ≡ true
    compared Eq = refl
    compared Ne = refl
    compared Lt = refl
    compared Gt = refl
    compared Le = refl
    compared Ge = refl

    related : (r : Related) → is_builtin_key (builtin_name (Relation r), 2) ≡ true
    related Unify = refl
    related NotUnify = refl
    related Same = refl
    related NotSame = refl
    related Is = refl
    related (Compare o) = compared o

-- ---- the predicate of clauses

pub clauses_block : (t : Numbered) (is : List Instr) (bs : List (List Instr)) (k : ℕ × ℕ) (p : Program) → ((code : Compiled) → Holds t code → AreCoded code (length is + chosen (length bs)) bs (clauses_for k p)) → is_builtin_key k ≡ false
    → IsBlock t is (choices (length is + chosen (length bs)) bs ++ together bs) k p
clauses_block t is bs k p coded away = record { stands = stands; sequences = sequences; apart = apart }
  where
    base : ℕ
    base = length is + chosen (length bs)

    own : List Instr
    own = choices base bs ++ together bs

    behind : (code : Compiled) (later : List Instr) → code.instructions ≡ is ++ (own ++ later) → drop (length is) code.instructions ≡ choices base bs ++ (together bs ++ later)
    behind code later e = ap (drop (length is)) e ∙ drop_append is (own ++ later) ∙ append_assoc (choices base bs) (together bs) later

    stands : (code : Compiled) (later : List Instr) → Holds t code → code.instructions ≡ is ++ (own ++ later)
        → (q : Predicate) → q.name ≡ k.0 → q.arity ≡ k.1 → q.start ≡ length is → q.end ≡ length (is ++ own) → IsStanding code p q
    stands code later h e q n a s w =
        let key : k ≡ (q.name, q.arity) = ap (λ m. (m, k.1)) (sym n) ∙ ap (λ m. (q.name, m)) (sym a) in (
          inl (record {
            reads =
                subst (λ at. AllZip (ReadsAt code) (alternatives at (drop at code.instructions)) (clauses_of q p)) (sym s)
                (subst (λ cs. AllZip (ReadsAt code) (alternatives (length is) (drop (length is) code.instructions)) cs) (sym (same_clauses q k p n a))
                (block_read code (length is) base bs later (clauses_for k p) (coded code h) refl (behind code later e)));
            apart = λ ts c. no_builtin q.name ts (ap (λ m. is_builtin_key (q.name, m)) c ∙ ap is_builtin_key (sym key) ∙ away);
          }),
          block_laid code q k is bs later p (coded code h) a s w e,
        )

    sequences : (code : Compiled) (later : List Instr) → Holds t code → code.instructions ≡ is ++ (own ++ later) → AreSequences code (length is) own
    sequences code later h e = block_sequences code (length is) base bs later (clauses_for k p) (coded code h) refl (behind code later e)

    apart : (code : Compiled) → Holds t code → AreCallsApart code own
    apart code h = both_apart code (choices base bs) (together bs) (choices_apart code base bs) (together_apart code base bs (clauses_for k p) (coded code h))

-- ---- the predicate of a built-in goal

set_below : (a n : ℕ) → 0 < a → a ≤ n → (nat_le 1 a && nat_le a n) ≡ true
set_below a n l m =
    let low : nat_le 1 a ≡ true = grind (arith, nat_tests) in
    let high : nat_le a n ≡ true = grind (arith, nat_tests) in
    ap (λ b. b && nat_le a n) low ∙ high

abbrev goal_code : Builtin → List Instr
goal_code b = BuiltinGoal b ∷ Proceed ∷ []

pub builtin_block : (t : Numbered) (is : List Instr) (b : Builtin) (k : ℕ × ℕ) (p : Program) → builtin_name b ≡ k.0 → builtin_arity b ≡ k.1 → IsBlock t is (BuiltinGoal b ∷ Proceed ∷ []) k p
builtin_block t is b k p name arity = record {
  stands = stands;
  sequences = λ code later h e. (λ l o. absurd (cc), (λ l o. absurd (cc), tt));
  apart = λ code h. (refl, (refl, tt));
}
  where
    stands : (code : Compiled) (later : List Instr) → Holds t code → code.instructions ≡ is ++ (goal_code b ++ later)
        → (q : Predicate) → q.name ≡ k.0 → q.arity ≡ k.1 → q.start ≡ length is → q.end ≡ length (is ++ goal_code b) → IsStanding code p q
    stands code later h e q n a' s w = (
      inr (record { goal = b; name = name ∙ sym n; arity = arity ∙ sym a'; first = first; last = last }),
      record {
        start = place q.start (omega arith) (omega (arith, s, long, w));
        range = λ at h i g. (fine at h i g).0;
        inside = λ at h i g. (fine at h i g).1;
        known = λ at h i g. (fine at h i g).2;
        choices = λ at h. absurd (let d : Some (BuiltinGoal b) ≡ Some (Try h.first) = sym first ∙ h.tries in cc);
        clauses = walks;
      },
    )
      where
        long : length (is ++ goal_code b) ≡ length is + 2
        long = length_both is (goal_code b)

        whole_long : length code.instructions ≡ length is + 2 + length later
        whole_long = ap length e ∙ (let m = length_both is (goal_code b ++ later) in omega (arith, m))

        get : (j : ℕ) → slice_get code.instructions (length is + j) ≡ slice_get (goal_code b ++ later) j
        get j = ap (λ ks. slice_get ks (length is + j)) e ∙ get_behind is (goal_code b ++ later) j

        first : slice_get code.instructions q.start ≡ Some (BuiltinGoal b)
        first = let f : q.start ≡ length is + 0 = omega (arith, s) in ap (slice_get code.instructions) f ∙ get 0

        last : slice_get code.instructions (q.start + 1) ≡ Some Proceed
        last = ap (λ n. slice_get code.instructions (n + 1)) s ∙ get 1

        place : (at : ℕ) → q.start ≤ at → at < q.end → IsPlaceOf code q at
        place at l m = record { from = l; before = m; held = omega (arith, w, long, whole_long) }

        fine : (at : ℕ) → IsPlaceOf code q at → At code at (λ i. InRange code i × GoesInside code q i × CallsKnown code i)
        fine at h i g =
            let r = rest q.start at h.from in
            go r.0 r.1 (let d : at < q.end = h.before in omega (arith, d, w, long, s, r.1))
          where
            go : (j : ℕ) → at ≡ q.start + j → j < 2 → InRange code i × GoesInside code q i × CallsKnown code i
            go zero d l =
                let f : q.start + 0 ≡ q.start = omega arith in
                let same : Some (BuiltinGoal b) ≡ Some i = sym first ∙ ap (slice_get code.instructions) (sym (d ∙ f)) ∙ g in
                let own : BuiltinGoal b ≡ i = cc in
                subst (λ i. InRange code i × GoesInside code q i × CallsKnown code i) own (tt, tt, tt)
            go (suc zero) d l =
                let same : Some Proceed ≡ Some i = sym last ∙ ap (slice_get code.instructions) (sym d) ∙ g in
                let own : Proceed ≡ i = cc in
                subst (λ i. InRange code i × GoesInside code q i × CallsKnown code i) own (tt, tt, tt)
            go (suc (suc j)) d l = absurd (omega arith)

        dropped : drop q.start code.instructions ≡ goal_code b ++ later
        dropped = ap (λ n. drop n code.instructions) s ∙ ap (drop (length is)) e ∙ drop_append is (goal_code b ++ later)

        taken : drop q.start (take q.end code.instructions) ≡ goal_code b
        taken =
            ap (λ n. drop q.start (take n code.instructions)) w
            ∙ ap (λ ks. drop q.start (take (length (is ++ goal_code b)) ks)) (e ∙ sym (append_assoc is (goal_code b) later))
            ∙ ap (drop q.start) (take_front (is ++ goal_code b) later)
            ∙ ap (λ n. drop n (is ++ goal_code b)) s
            ∙ drop_append is (goal_code b)

        walks : (j l : ℕ) → slice_get (clause_places code q) j ≡ Some l → WalksFrom code q l
        walks j l g =
            let listed : slice_get (q.start ∷ []) j ≡ Some l = ap (λ is. slice_get (alternatives q.start is) j) (sym dropped) ∙ g in
            go j listed
          where
            go : (j : ℕ) → slice_get (q.start ∷ []) j ≡ Some l → WalksFrom code q l
            go (suc j) d = cc
            go zero d =
                let same : q.start ≡ l = cc in
                subst (WalksFrom code q) same (omega arith, subst (λ is. Walks code q.start 0 is (entry q.arity)) (sym taken) walk)
              where
                walk : Walks code q.start 0 (goal_code b) (entry q.arity)
                walk = (
                  record { reads = λ a l m. set_below a q.arity l (subst (λ n. a ≤ n) (arity ∙ sym a') m); environment = tt; turn = refl; group = tt; on = tt },
                  λ e. (record { reads = tt; environment = refl; turn = refl; group = tt; on = tt }, λ e. absurd (cc), λ l e. absurd (cc)),
                  λ l e. absurd (cc),
                )
