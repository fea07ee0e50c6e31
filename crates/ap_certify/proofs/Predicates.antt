-- The predicates that have a clause, and the calls with which a program is entered.
use Rattle.std.proofs.Common.{◌≡◌, ℕ, ◌+◌, ◌<◌, ◌≤◌, inl, inr, Bool, true, false, ◌||◌, if◌then◌else◌, List, [], ◌∷◌, ◌++◌, Option, Some, None, length, take, get_or, map, refl, ap, sym, ◌∙◌, subst}
use Rattle.std.specs.List.{All, flat_map, list_any}
use Rattle.std.proofs.lemmas.Bool.{false≢true}
use Rattle.std.proofs.lemmas.List.{take_more}
use Rattle.std.proofs.lemmas.List.Concat.{flat_map-append}
use Rattle.std.proofs.lemmas.List.Elements.{All-nil, All-cons, All-head, All-tail, All-append, All-push, All-map}
use Rattle.ap_term.specs.Tree.{count_trees}
use Rattle.ap_term.specs.WellFormed.{IsClause, IsProgram}
use Rattle.ap_term.specs.Goals.{Clause, Program}
use Rattle.ap_patterns.specs.declared.tables.Predicate.{Predicate}
use Rattle.ap_patterns.specs.declared.slots.Slot.TheVariants.{Call}
use Rattle.ap_patterns.specs.declared.entries.Entries.{Entries}
use Rattle.ap_patterns.specs.declared.entries.Entries.TheVariants.{All as AllOf, One, Query}
use Rattle.ap_patterns.specs.Entry.{marked_pattern}
use Rattle.ap_patterns.specs.Places.{arguments}
use Rattle.ap_patterns.specs.Table.{predicate_of, same_predicate}
use Rattle.ap_patterns.specs.Given.{Patterns, to_call, any_pattern, given_by_heads, given_by_entries, given_by_clause}
use Rattle.ap_patterns.specs.Covered.{IsHeld, IsClosed}
use Rattle.ap_patterns.proofs.Arguments.{callable-few, head-callable}
use Rattle.ap_patterns.proofs.Rows.{same_predicate-true}
use Rattle.ap_tracked.specs.Tracked.{IsOneOf}
use Rattle.ap_certify.specs.Refused.{with_new, predicates_behind, call_of_any, entry_calls}
use Rattle.ap_certify.specs.Scopes.{AreSameEntries}
use Rattle.ap_certify.proofs.Closed.{left_all, right_all, arity_of}

-- ---- what holds of the predicates of clauses

new-all : (P : Predicate → Type 0) (o : Option Predicate) (ps : List Predicate) → ((p : Predicate) → o ≡ Some p → P p) → All P ps → All P (with_new o ps)
new-all P None ps k h = h
new-all P (Some p) ps k h = go (list_any (λ q. same_predicate q p) ps)
  where
    go : (b : Bool) → All P (if b then ps else ps ++ p ∷ [])
    go true = h
    go false = All-push P ps p h (k p refl)

behind-all : (P : Predicate → Type 0) (ps : List Predicate) (A : Program) → ((c : Clause) → IsOneOf c A → (p : Predicate) → predicate_of c.head ≡ Some p → P p) → All P ps
    → All P (predicates_behind ps A)
behind-all P ps [] k h = h
behind-all P ps (c ∷ cs) k h = behind-all P (with_new (predicate_of c.head) ps) cs (λ d i. k d (inr i)) (new-all P (predicate_of c.head) ps (k c (inl refl)) h)

pub arities-few : (A : Program) → IsProgram A → All (λ p. p.arity ≤ 255) (predicates_behind [] A)
arities-few A w = behind-all (λ p. p.arity ≤ 255) [] A few (All-nil (λ (p : Predicate). p.arity ≤ 255))
  where
    each : (cs : Program) → IsProgram cs → (c : Clause) → IsOneOf c cs → IsClause c
    each [] v c i = absurd i
    each (d ∷ cs) v c (inl e) = subst IsClause (sym e) (All-head IsClause d cs v)
    each (d ∷ cs) v c (inr i) = each cs (All-tail IsClause d cs v) c i

    few : (c : Clause) → IsOneOf c A → (p : Predicate) → predicate_of c.head ≡ Some p → p.arity ≤ 255
    few c i p e = subst (λ n. n ≤ 255) (sym (arity_of c.head p e)) (callable-few c.head (head-callable c (each A w c i)))

-- ---- each clause's predicate is among them

new-kept : (P : Predicate → Type 0) (o : Option Predicate) (ps : List Predicate) → All P (with_new o ps) → All P ps
new-kept P None ps h = h
new-kept P (Some p) ps h = go (list_any (λ q. same_predicate q p) ps) h
  where
    go : (b : Bool) → All P (if b then ps else ps ++ p ∷ []) → All P ps
    go true k = k
    go false k = left_all P ps (p ∷ []) k

same-there : (P : Predicate → Type 0) (p : Predicate) (ps : List Predicate) → list_any (λ q. same_predicate q p) ps ≡ true → All P ps → P p
same-there P p [] e h = absurd (false≢true e)
same-there P p (q ∷ ps) e h = go (same_predicate q p) refl e (λ k. same-there P p ps k (All-tail P q ps h))
  where
    go : (b : Bool) → same_predicate q p ≡ b → (b || list_any (λ q. same_predicate q p) ps) ≡ true → (list_any (λ q. same_predicate q p) ps ≡ true → P p) → P p
    go true s k ih = subst P (same_predicate-true q p s) (All-head P q ps h)
    go false s k ih = ih k

new-there : (P : Predicate → Type 0) (p : Predicate) (ps : List Predicate) → All P (with_new (Some p) ps) → P p
new-there P p ps h = go (list_any (λ q. same_predicate q p) ps) refl h
  where
    go : (b : Bool) → list_any (λ q. same_predicate q p) ps ≡ b → All P (if b then ps else ps ++ p ∷ []) → P p
    go true e k = same-there P p ps e k
    go false e k = All-head P p [] (right_all P ps (p ∷ []) k)

behind-kept : (P : Predicate → Type 0) (ps : List Predicate) (A : Program) → All P (predicates_behind ps A) → All P ps
behind-kept P ps [] h = h
behind-kept P ps (c ∷ cs) h = new-kept P (predicate_of c.head) ps (behind-kept P (with_new (predicate_of c.head) ps) cs h)

head-held : (t : Patterns) (o : Option Predicate) (n : ℕ) (ps : List Predicate) → ((p : Predicate) → o ≡ Some p → p.arity ≡ n) → All (λ p. IsHeld t (call_of_any p)) (with_new o ps)
    → All (IsHeld t) (to_call o (any_pattern n))
head-held t None n ps k h = All-nil (IsHeld t)
head-held t (Some p) n ps k h =
    let P : Predicate → Type 0 = λ p. IsHeld t (call_of_any p) in
    All-cons (IsHeld t) (record { slot = Call p; pattern = any_pattern n }) []
    (subst (λ m. IsHeld t (record { slot = Call p; pattern = any_pattern m })) (k p refl) (new-there P p ps h)) (All-nil (IsHeld t))

heads-held : (t : Patterns) (ps : List Predicate) (A : Program) → All (λ p. IsHeld t (call_of_any p)) (predicates_behind ps A) → All (IsHeld t) (given_by_heads A)
heads-held t ps [] h = All-nil (IsHeld t)
heads-held t ps (c ∷ cs) h =
    let P : Predicate → Type 0 = λ p. IsHeld t (call_of_any p) in
    let n = count_trees (arguments c.head) in
    All-append (IsHeld t) (to_call (predicate_of c.head) (any_pattern n)) (given_by_heads cs)
    (head-held t (predicate_of c.head) n ps (arity_of c.head) (behind-kept P (with_new (predicate_of c.head) ps) cs h))
    (heads-held t (with_new (predicate_of c.head) ps) cs h)

-- ---- lists

unmapped : {X Y : Type 0} (P : Y → Type 0) (f : X → Y) (xs : List X) → All P (map f xs) → All (λ x. P (f x)) xs
unmapped P f [] h = All-nil (λ x. P (f x))
unmapped P f (x ∷ xs) h = All-cons (λ x. P (f x)) x xs (All-head P (f x) (map f xs) h) (unmapped P f xs (All-tail P (f x) (map f xs) h))

pub flat_held-more : {X Y : Type 0} (P : Y → Type 0) (f : X → List Y) (xs : List X) (i : ℕ) (d : X) → i < length xs → All P (flat_map f (take i xs)) → All P (f (get_or xs i d))
    → All P (flat_map f (take (i + 1) xs))
flat_held-more P f xs i d l h k =
    let x = get_or xs i d in
    subst (λ ys. All P (flat_map f ys)) (sym (take_more xs i d l))
    (subst (All P) (sym (flat_map-append f (take i xs) (x ∷ []))) (All-append P (flat_map f (take i xs)) (f x ++ []) h (All-append P (f x) [] k (All-nil P))))

-- ---- tables

-- a table that covers the entries and what the clauses give is closed
pub closed : (E : Entries) (A : Program) (t : Patterns) → All (IsHeld t) (entry_calls E A) → All (IsHeld t) (flat_map (given_by_clause t) A) → IsClosed E A t
closed E A t h k = All-append (IsHeld t) (given_by_entries E A) (flat_map (given_by_clause t) A) (go E h) k
  where
    go : (E : Entries) → All (IsHeld t) (entry_calls E A) → All (IsHeld t) (given_by_entries E A)
    go AllOf h = heads-held t [] A (unmapped (IsHeld t) call_of_any (predicates_behind [] A) h)
    go (One e) h = h
    go Query h = h

-- a closed table covers the entries
pub entries-held : (E : Entries) (A : Program) (t : Patterns) → All (IsHeld t) (given_by_entries E A) → All (IsHeld t) (entry_calls E A)
entries-held AllOf A t h = All-map (IsHeld t) call_of_any (predicates_behind [] A) (behind-all (λ p. IsHeld t (call_of_any p)) [] A (there A h) (All-nil (λ p. IsHeld t (call_of_any p))))
  where
    one : (o : Option Predicate) (n : ℕ) (p : Predicate) → o ≡ Some p → p.arity ≡ n → All (IsHeld t) (to_call o (any_pattern n)) → IsHeld t (call_of_any p)
    one None n p e k h = absurd (cc)
    one (Some q) n p e k h =
        let same : q ≡ p = cc in
        subst (λ m. IsHeld t (record { slot = Call p; pattern = any_pattern m })) (sym k)
        (subst (λ z. IsHeld t (record { slot = Call z; pattern = any_pattern n })) same (All-head (IsHeld t) (record { slot = Call q; pattern = any_pattern n }) [] h))

    there : (cs : Program) → All (IsHeld t) (given_by_heads cs) → (c : Clause) → IsOneOf c cs → (p : Predicate) → predicate_of c.head ≡ Some p → IsHeld t (call_of_any p)
    there [] h c i p e = absurd i
    there (d ∷ cs) h c (inl i) p e =
        let n = count_trees (arguments d.head) in
        let q : predicate_of d.head ≡ Some p = ap (λ z. predicate_of z.head) (sym i) ∙ e in
        one (predicate_of d.head) n p q (arity_of d.head p q) (left_all (IsHeld t) (to_call (predicate_of d.head) (any_pattern n)) (given_by_heads cs) h)
    there (d ∷ cs) h c (inr i) p e = there cs (right_all (IsHeld t) (to_call (predicate_of d.head) (any_pattern (count_trees (arguments d.head)))) (given_by_heads cs) h) c i p e
entries-held (One e) A t h = h
entries-held Query A t h = h

-- a table is closed for the same entries again
pub same-closed : (E F : Entries) (A : Program) (t : Patterns) → AreSameEntries E F → IsClosed E A t → IsClosed F A t
same-closed AllOf AllOf A t s h = h
same-closed AllOf (One f) A t s h = absurd s
same-closed AllOf Query A t s h = absurd s
same-closed (One e) AllOf A t s h = absurd s
same-closed (One e) (One f) A t s h =
    let rest = flat_map (given_by_clause t) A in
    subst (λ p. All (IsHeld t) (record { slot = Call p; pattern = marked_pattern f.marks.items } ∷ rest)) s.0
    (subst (λ ms. All (IsHeld t) (record { slot = Call e.predicate; pattern = marked_pattern ms } ∷ rest)) s.1 h)
same-closed (One e) Query A t s h = absurd s
same-closed Query AllOf A t s h = absurd s
same-closed Query (One f) A t s h = absurd s
same-closed Query Query A t s h = h
