-- A predicate whose clauses stand one behind another, with choice instructions before them, is laid out as code has to be.
use Rattle.std.proofs.Common.{◌≡◌, ℕ, zero, suc, ◌+◌, ◌<◌, ◌≤◌, ◌==◌, Bool, true, false, if◌then◌else◌, List, [], ◌∷◌, ◌++◌, length, drop, take, ◌⊎◌, inl, inr, Some, refl, ap, sym, ◌∙◌, subst, arith, append_assoc}
use Rattle.std.specs.List.{slice_get}
use Rattle.std.proofs.lemmas.Bool.{false≢true, and_parts}
use Rattle.std.proofs.lemmas.Bool.Decides.{Decides-eqb}
use Rattle.ap_term.specs.Tree.{Tree, var, int, atom, node, count_trees}
use Rattle.ap_term.specs.Goals.{Clause, Program}
use Rattle.ap_instr.specs.declared.instruction.Instr.{Instr}
use Rattle.ap_instr.specs.declared.instruction.Instr.TheVariants.{Try, Retry, Trust}
use Rattle.ap_instr.specs.declared.compiled.Predicate.{Predicate}
use Rattle.ap_instr.specs.Code.{Compiled}
use Rattle.ap_instr.specs.Runs.{arguments}
use Rattle.ap_instr.specs.StandsFor.{clause_places}
use Rattle.ap_codecheck.specs.Shape.{entry}
use Rattle.ap_codecheck.specs.Paths.{IsPlaceOf}
use Rattle.ap_codecheck.specs.Rules.{InRange, GoesInside, CallsKnown, IsAlternative, At}
use Rattle.ap_codecheck.specs.Judged.{AreAwaited}
use Rattle.ap_codecheck.specs.Walk.{Walks, WalksFrom, IsLaid}
use Rattle.ap_codegen.specs.Assembled.{AreAloneIn, AreInstructionsOf, AreCoded, places, retries, choices, chosen, together, heads, clauses_for}
use Rattle.ap_codegen.proofs.Placed.{drop_append, length_choices, block_places}

-- ---- lists

pub get_behind : {A : Type 0} (xs ys : List A) (j : ℕ) → slice_get (xs ++ ys) (length xs + j) ≡ slice_get ys j
get_behind [] ys j = let e : 0 + j ≡ j = omega arith in ap (slice_get ys) e
get_behind (x ∷ xs) ys j = let e : suc (length xs) + j ≡ suc (length xs + j) = omega arith in ap (slice_get (x ∷ (xs ++ ys))) e ∙ get_behind xs ys j

get_before : {A : Type 0} (xs ys : List A) (j : ℕ) → j < length xs → slice_get (xs ++ ys) j ≡ slice_get xs j
get_before [] ys j l = absurd (omega arith)
get_before (x ∷ xs) ys zero l = refl
get_before (x ∷ xs) ys (suc j) l = get_before xs ys j (omega arith)

pub length_both : {A : Type 0} (xs ys : List A) → length (xs ++ ys) ≡ length xs + length ys
length_both [] ys = omega arith
length_both (x ∷ xs) ys = let e = length_both xs ys in omega (arith, e)

pub take_front : {A : Type 0} (xs ys : List A) → take (length xs) (xs ++ ys) ≡ xs
take_front [] ys = refl
take_front (x ∷ xs) ys = ap (λ l. x ∷ l) (take_front xs ys)

-- the rest of a number
pub rest : (a b : ℕ) → a ≤ b → (j : ℕ) × (b ≡ a + j)
rest zero b l = (b, omega arith)
rest (suc a) zero l = absurd (omega arith)
rest (suc a) (suc b) l = let r = rest a b (omega arith) in (r.0, let e : b ≡ a + r.0 = r.1 in omega arith)

-- each element of a list
abbrev Each : {A : Type 0} → (A → Type 0) → List A → Type 0
Each P [] = Unit {0}
Each P (x ∷ xs) = P x × Each P xs

each_both : {A : Type 0} (P : A → Type 0) (xs ys : List A) → Each P xs → Each P ys → Each P (xs ++ ys)
each_both P [] ys h k = k
each_both P (x ∷ xs) ys h k = (h.0, each_both P xs ys h.1 k)

each_at : {A : Type 0} (P : A → Type 0) (xs : List A) (j : ℕ) (x : A) → Each P xs → slice_get xs j ≡ Some x → P x
each_at P [] j x h e = cc
each_at P (y ∷ xs) zero x h e = let same : y ≡ x = cc in subst P same h.0
each_at P (y ∷ xs) (suc j) x h e = each_at P xs j x h.1 e

-- ---- clauses

abbrev AreOf : Compiled → ℕ → ℕ → List (List Instr) → List Clause → Type 0
AreOf code arity at [] [] = Unit {0}
AreOf code arity at (is ∷ bs) (c ∷ cs) = (AreInstructionsOf code at c is × (count_trees (arguments c.head) ≡ arity)) × AreOf code arity (at + length is) bs cs
AreOf code arity at _ _ = ⊥

heads_arity : (k : ℕ × ℕ) (t : Tree) → heads k t ≡ true → count_trees (arguments t) ≡ k.1
heads_arity k (var x) h = absurd (false≢true h)
heads_arity k (int z) h = absurd (false≢true h)
heads_arity k (atom a) h = (Decides-eqb 0 k.1).0 (and_parts (a == k.0) (0 == k.1) h).1
heads_arity k (node a ts) h = (Decides-eqb (count_trees ts) k.1).0 (and_parts (a == k.0) (count_trees ts == k.1) h).1

are_of : (code : Compiled) (k : ℕ × ℕ) (at : ℕ) (bs : List (List Instr)) (p : Program) → AreCoded code at bs (clauses_for k p) → AreOf code k.1 at bs (clauses_for k p)
are_of code k at bs [] h = none bs h
  where
    none : (bs : List (List Instr)) → AreCoded code at bs [] → AreOf code k.1 at bs []
    none [] h = tt
    none (b ∷ bs) h = absurd h
are_of code k at bs (c ∷ p) h = go (heads k c.head) refl bs h (λ at bs h. are_of code k at bs p h)
  where
    go : (b : Bool) → heads k c.head ≡ b → (bs : List (List Instr)) → AreCoded code at bs (if b then c ∷ clauses_for k p else clauses_for k p)
        → ((at : ℕ) (bs : List (List Instr)) → AreCoded code at bs (clauses_for k p) → AreOf code k.1 at bs (clauses_for k p)) → AreOf code k.1 at bs (if b then c ∷ clauses_for k p else clauses_for k p)
    go true e [] h ih = absurd h
    go true e (b ∷ bs) h ih = ((h.0, heads_arity k c.head e), ih (at + length b) bs h.1)
    go false e bs h ih = ih at bs h

filled : (code : Compiled) (at : ℕ) (c : Clause) (is : List Instr) → AreInstructionsOf code at c is → 0 < length is
filled code at c [] h = absurd (h.walks [])
filled code at c (i ∷ is) h = omega arith

not_try : (code : Compiled) (at : ℕ) (c : Clause) (is : List Instr) (l : ℕ) → AreInstructionsOf code at c is → slice_get is 0 ≡ Some (Try l) → ⊥
not_try code at c [] l h e = cc
not_try code at c (i ∷ is) l h e =
    let same : i ≡ Try l = cc in
    let w = subst (λ i. Walks code at 0 ((i ∷ is) ++ []) (entry (count_trees (arguments c.head)))) same (h.walks []) in
    w.0.on

-- where clauses begin and walk
clause_at : (code : Compiled) (arity : ℕ) (xs : List Instr) (bs : List (List Instr)) (cs : List Clause) (at : ℕ) → at ≡ length xs → AreOf code arity at bs cs
    → (k l : ℕ) → slice_get (places at bs) k ≡ Some l → (at ≤ l) × Walks code l 0 (drop l (xs ++ together bs)) (entry arity)
clause_at code arity xs [] cs at e h k l d = cc
clause_at code arity xs (b ∷ bs) [] at e h k l d = absurd h
clause_at code arity xs (b ∷ bs) (c ∷ cs) at e h zero l d =
    let same : at ≡ l = cc in
    let front : drop l (xs ++ (b ++ together bs)) ≡ b ++ together bs = ap (λ n. drop n (xs ++ (b ++ together bs))) (sym same ∙ e) ∙ drop_append xs (b ++ together bs) in
    (omega arith, subst (λ is. Walks code l 0 is (entry arity)) (sym front) (subst (λ n. Walks code l 0 (b ++ together bs) (entry n)) h.0.1 (subst (λ n. Walks code n 0 (b ++ together bs) (entry (count_trees (arguments c.head)))) same (h.0.0.walks (together bs)))))
clause_at code arity xs (b ∷ bs) (c ∷ cs) at e h (suc k) l d =
    let n : at + length b ≡ length (xs ++ b) = ap (λ m. m + length b) e ∙ sym (length_both xs b) in
    let r = clause_at code arity (xs ++ b) bs cs (at + length b) n h.1 k l d in
    let less : at + length b ≤ l = r.0 in
    (omega arith, subst (λ is. Walks code l 0 (drop l is) (entry arity)) (append_assoc xs b (together bs)) r.1)

-- ---- choices

-- an alternative stands where there are retries alone before it
awaited : (at : ℕ) (b : List Instr) (bs : List (List Instr)) (ys : List Instr) (j : ℕ) → ((k : ℕ) → k < j → (l : ℕ) × (slice_get (retries at (b ∷ bs) ++ ys) k ≡ Some (Retry l)))
    → (j < length (retries at (b ∷ bs))) × ((i : Instr) → slice_get (retries at (b ∷ bs) ++ ys) j ≡ Some i → IsAlternative i)
awaited at b [] ys zero h = (omega arith, λ i e. let same : Trust at ≡ i = cc in subst IsAlternative same tt)
awaited at b [] ys (suc j) h = let r = h 0 (omega arith) in let e : Some (Trust at) ≡ Some (Retry r.0) = r.1 in cc
awaited at b (c ∷ cs) ys zero h = (omega arith, λ i e. let same : Retry at ≡ i = cc in subst IsAlternative same tt)
awaited at b (c ∷ cs) ys (suc j) h =
    let r = awaited (at + length b) c cs ys j (λ k l. h (suc k) (omega arith)) in
    let less : j < length (retries (at + length b) (c ∷ cs)) = r.0 in
    (omega arith, r.1)

-- a predicate's instructions
abbrev region : ℕ → List (List Instr) → List Instr
region base bs = choices base bs ++ together bs

-- there is one
region_filled : (code : Compiled) (arity base : ℕ) (bs : List (List Instr)) (cs : List Clause) → AreOf code arity base bs cs → 0 < length (region base bs)
region_filled code arity base [] cs h = omega arith
region_filled code arity base (b ∷ []) [] h = absurd h
region_filled code arity base (b ∷ []) (c ∷ cs) h = let e = length_both b [] in let f : 0 < length b = filled code base c b h.0.0 in omega (arith, e)
region_filled code arity base (b ∷ d ∷ bs) cs h = omega arith

region_awaited : (code : Compiled) (arity base : ℕ) (bs : List (List Instr)) (cs : List Clause) (later : List Instr) (first j : ℕ) → AreOf code arity base bs cs
    → slice_get (region base bs ++ later) 0 ≡ Some (Try first) → ((k : ℕ) → 0 < k → k < suc j → (l : ℕ) × (slice_get (region base bs ++ later) k ≡ Some (Retry l)))
    → (suc j < length (region base bs)) × ((i : Instr) → slice_get (region base bs ++ later) (suc j) ≡ Some i → IsAlternative i)
region_awaited code arity base [] cs later first j h e r = cc
region_awaited code arity base (b ∷ []) [] later first j h e r = absurd h
region_awaited code arity base (b ∷ []) (c ∷ cs) later first j h e r =
    let some : 0 < length b = filled code base c b h.0.0 in
    let n = length_both b [] in
    absurd (not_try code base c b first h.0.0 (sym (get_before b [] 0 some) ∙ sym (get_before (b ++ []) later 0 (omega (arith, n))) ∙ e))
region_awaited code arity base (b ∷ d ∷ bs) cs later first j h e r =
    let rs : List Instr = retries (base + length b) (d ∷ bs) in
    let t : List Instr = together (b ∷ d ∷ bs) in
    let same : (rs ++ t) ++ later ≡ rs ++ (t ++ later) = append_assoc rs t later in
    let w = awaited (base + length b) d bs (t ++ later) j (λ k l. let m = r (suc k) (omega arith) (omega arith) in (m.0, ap (λ is. slice_get is k) (sym same) ∙ m.1)) in
    let n = length_both rs t in
    let less : j < length rs = w.0 in
    (omega (arith, n), λ i g. w.1 i (ap (λ is. slice_get is j) (sym same) ∙ g))

module _ (code : Compiled) (q : Predicate) where
  -- the rules that an instruction of the predicate keeps by itself
  abbrev Fine : Instr → Type 0
  Fine i = InRange code i × GoesInside code q i × CallsKnown code i

  module _ (low end : ℕ) (place : (at : ℕ) → low ≤ at → at < end → IsPlaceOf code q at) where
    each_alone : (from to : ℕ) → low ≤ from → to ≤ end → (is : List Instr) → AreAloneIn code from to is → Each Fine is
    each_alone from to l m [] h = tt
    each_alone from to l m (i ∷ is) h = ((h.0.0, h.0.2 q (λ at f b. place at (omega arith) (omega arith)), h.0.1), each_alone from to l m is h.1)

    each_clause : (at : ℕ) (bs : List (List Instr)) (cs : List Clause) → AreOf code q.arity at bs cs → low ≤ at → at + length (together bs) ≡ end → Each Fine (together bs)
    each_clause at [] cs h l e = tt
    each_clause at (b ∷ bs) [] h l e = absurd h
    each_clause at (b ∷ bs) (c ∷ cs) h l e =
        let n = length_both b (together bs) in
        each_both Fine b (together bs) (each_alone at (at + length b) l (omega (arith, n, e)) b h.0.0.alone) (each_clause (at + length b) bs cs h.1 (omega arith) (omega (arith, n, e)))

    each_retry : (at : ℕ) (b : List Instr) (bs : List (List Instr)) (cs : List Clause) → AreOf code q.arity at (b ∷ bs) cs → low ≤ at → at + length (together (b ∷ bs)) ≡ end → Each Fine (retries at (b ∷ bs))
    each_retry at b bs [] h l e = absurd h
    each_retry at b [] (c ∷ cs) h l e =
        let n = length_both b [] in
        let some : 0 < length b = filled code at c b h.0.0 in
        ((tt, place at l (omega (arith, n, e)), tt), tt)
    each_retry at b (d ∷ bs) (c ∷ cs) h l e =
        let n = length_both b (together (d ∷ bs)) in
        let some : 0 < length b = filled code at c b h.0.0 in
        ((tt, place at l (omega (arith, n, e)), tt), each_retry (at + length b) d bs cs h.1 (omega arith) (omega (arith, n, e)))

    each_choice : (base : ℕ) (bs : List (List Instr)) (cs : List Clause) → AreOf code q.arity base bs cs → low ≤ base → base + length (together bs) ≡ end → Each Fine (choices base bs)
    each_choice base [] cs h l e = ((tt, tt, tt), tt)
    each_choice base (b ∷ []) cs h l e = tt
    each_choice base (b ∷ d ∷ bs) [] h l e = absurd h
    each_choice base (b ∷ d ∷ bs) (c ∷ cs) h l e =
        let n = length_both b (together (d ∷ bs)) in
        let some : 0 < length b = filled code base c b h.0.0 in
        ((tt, place base l (omega (arith, n, e)), tt), each_retry (base + length b) d bs cs h.1 (omega arith) (omega (arith, n, e)))

pub block_laid : (code : Compiled) (q : Predicate) (k : ℕ × ℕ) (front : List Instr) (bs : List (List Instr)) (later : List Instr) (p : Program) → AreCoded code (length front + chosen (length bs)) bs (clauses_for k p) → q.arity ≡ k.1
    → q.start ≡ length front → q.end ≡ length (front ++ region (length front + chosen (length bs)) bs) → code.instructions ≡ front ++ (region (length front + chosen (length bs)) bs ++ later) → IsLaid code q
block_laid code q k front bs later p coded a s e w = record {
  start = place q.start (omega (arith, s)) (omega (arith, s, e, long, whole_long, region_filled code k.1 base bs cs (are_of code k base bs p coded)));
  range = λ at h i g. (fine at h i g).0;
  inside = λ at h i g. (fine at h i g).1;
  known = λ at h i g. (fine at h i g).2;
  choices = awaits;
  clauses = walks;
}
  where
    cs : Program
    cs = clauses_for k p

    base : ℕ
    base = length front + chosen (length bs)

    own : List Instr
    own = region base bs

    long : length (front ++ own) ≡ length front + length own
    long = length_both front own

    whole_long : length code.instructions ≡ length front + length own + length later
    whole_long = ap length w ∙ (let m = length_both front (own ++ later) in let n = length_both own later in omega (arith, m, n))

    place : (at : ℕ) → length front ≤ at → at < length (front ++ own) → IsPlaceOf code q at
    place at l m = record { from = omega (arith, s); before = omega (arith, e); held = omega (arith, long, whole_long) }

    of : AreOf code q.arity base bs cs
    of = subst (λ n. AreOf code n base bs cs) (sym a) (are_of code k base bs p coded)

    -- an instruction of the predicate by its number there
    get : (j : ℕ) → slice_get code.instructions (length front + j) ≡ slice_get (own ++ later) j
    get j = ap (λ is. slice_get is (length front + j)) w ∙ get_behind front (own ++ later) j

    each : Each (Fine code q) own
    each = go (length_choices base bs)
      where
        go : (length (choices base bs) ≡ chosen (length bs)) ⊎ (bs ≡ []) → Each (Fine code q) own
        go (inl n) =
            let m = length_both (choices base bs) (together bs) in
            let whole : base + length (together bs) ≡ length (front ++ own) = omega (arith, n, m, long) in
            each_both (Fine code q) (choices base bs) (together bs)
            (each_choice code q (length front) (length (front ++ own)) place base bs cs of (omega arith) whole)
            (each_clause code q (length front) (length (front ++ own)) place base bs cs of (omega arith) whole)
        go (inr n) = subst (λ bs. Each (Fine code q) (region base bs)) (sym n) ((tt, tt, tt), tt)

    fine : (at : ℕ) → IsPlaceOf code q at → At code at (Fine code q)
    fine at h i g =
        let r = rest (length front) at (let f : q.start ≤ at = h.from in omega (arith, s)) in
        let less : r.0 < length own = let b : at < q.end = h.before in omega (arith, e, long, r.1) in
        each_at (Fine code q) own r.0 i each (sym (get_before own later r.0 less) ∙ sym (get r.0) ∙ ap (slice_get code.instructions) (sym r.1) ∙ g)

    awaits : AreAwaited code q
    awaits at h =
        let r = rest (length front) at (let f : q.start < at = h.behind in omega (arith, s)) in
        go r.0 r.1
      where
        go : (j : ℕ) → at ≡ length front + j → IsPlaceOf code q at × At code at IsAlternative
        go zero d = absurd (let f : q.start < at = h.behind in omega (arith, s, d))
        go (suc j) d =
            let zero_at : q.start ≡ length front + 0 = omega (arith, s) in
            let first : slice_get (own ++ later) 0 ≡ Some (Try h.first) = sym (get 0) ∙ ap (slice_get code.instructions) (sym zero_at) ∙ h.tries in
            let r = region_awaited code q.arity base bs cs later h.first j of first (λ k l m.
            let b = h.between (length front + k) (omega (arith, s)) (omega (arith, d)) in (b.0, sym (get k) ∙ b.1)) in
            let less : suc j < length own = r.0 in
            (place at (omega (arith, d)) (omega (arith, d, long)), λ i g. r.1 i (sym (get (suc j)) ∙ ap (slice_get code.instructions) (sym d) ∙ g))

    walks : (j l : ℕ) → slice_get (clause_places code q) j ≡ Some l → WalksFrom code q l
    walks j l g =
        let behind : drop q.start code.instructions ≡ choices base bs ++ (together bs ++ later) =
        ap (λ n. drop n code.instructions) s ∙ ap (drop (length front)) w ∙ drop_append front (own ++ later) ∙ append_assoc (choices base bs) (together bs) later in
        let based : base ≡ q.start + chosen (length bs) = ap (λ n. n + chosen (length bs)) (sym s) in
        let listed : slice_get (places base bs) j ≡ Some l = ap (λ ls. slice_get ls j) (sym (block_places code q.start base bs later cs coded based behind)) ∙ g in
        let taken : take q.end code.instructions ≡ front ++ own = ap (take q.end) (w ∙ sym (append_assoc front own later)) ∙ ap (λ n. take n ((front ++ own) ++ later)) e ∙ take_front (front ++ own) later in
        go (length_choices base bs) listed taken
      where
        go : (length (choices base bs) ≡ chosen (length bs)) ⊎ (bs ≡ []) → slice_get (places base bs) j ≡ Some l → take q.end code.instructions ≡ front ++ own → WalksFrom code q l
        go (inl n) listed taken =
            let m = length_both front (choices base bs) in
            let at : base ≡ length (front ++ choices base bs) = omega (arith, n, m) in
            let r = clause_at code q.arity (front ++ choices base bs) bs cs base at of j l listed in
            let less : base ≤ l = r.0 in
            (omega (arith, s), subst (λ is. Walks code l 0 (drop l is) (entry q.arity)) (append_assoc front (choices base bs) (together bs) ∙ sym taken) r.1)
        go (inr n) listed taken = let d : slice_get (places base []) j ≡ Some l = ap (λ bs. slice_get (places base bs) j) (sym n) ∙ listed in cc
