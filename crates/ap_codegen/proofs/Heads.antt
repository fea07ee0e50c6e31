-- The predicates of clauses in a table, and those that are listed.
use Rattle.std.proofs.Common.{◌≡◌, ℕ, zero, suc, ◌+◌, ◌<◌, ◌≤◌, nat_lt, ◌==◌, Bool, true, false, not, ◌&&◌, ◌||◌, is_some, is_none, if◌then◌else◌, inl, inr, List, [], ◌∷◌, ◌++◌, map, length, take, drop, get_or, slice_get, Option, Some, None, refl, ap, sym, ◌∙◌, subst, arith, append_assoc}
use Rattle.std.specs.List.{filter, list_any}
use Rattle.std.proofs.lemmas.Bool.{false≢true}
use Rattle.std.proofs.lemmas.Bool.Decides.{nat_tests}
use Rattle.std.proofs.lemmas.List.{drop_more, drop_all, take_all}
use Rattle.ap_term.specs.declared.builtins.Relation.{Relation}
use Rattle.ap_term.specs.declared.fixed.TheConstants.{TRUE, FAIL}
use Rattle.ap_term.specs.Tree.{Tree, Trees, atom, node, none, more, count_trees}
use Rattle.ap_term.specs.Substitution.{Subst}
use Rattle.ap_term.specs.Builtins.{relation_named, named_answer}
use Rattle.ap_term.specs.Goals.{Clause, Program}
use Rattle.ap_term.specs.WellFormed.{callable}
use Rattle.ap_term.proofs.Lists.{same_key, own_key}
use Rattle.ap_tracked.specs.Tracked.{IsOneOf}
use Rattle.ap_instr.specs.declared.compiled.Predicate.{Predicate}
use Rattle.ap_instr.specs.Table.{Key, is_key, key_of, head_key, first, predicates_of, AreTiled}
use Rattle.ap_codegen.specs.Assembled.{Keeps}
use Rattle.ap_codegen.specs.Heads.{with_key, with_heads}
use Rattle.ap_codegen.specs.Permanent.{is_builtin_key}

-- ---- keys

pub turned_key : (k l : Key) → is_key k l ≡ is_key l k
turned_key k l = go (is_key k l) (is_key l k) refl refl
  where
    go : (b c : Bool) → is_key k l ≡ b → is_key l k ≡ c → b ≡ c
    go true true e f = refl
    go true false e f = absurd (false≢true (sym f ∙ ap (λ m. is_key l m) (same_key k l e) ∙ own_key l))
    go false true e f = absurd (false≢true (sym e ∙ ap (λ m. is_key k m) (same_key l k f) ∙ own_key k))
    go false false e f = refl

-- ---- heads

abbrev answer_by : Bool → Bool → Option (Option Subst)
answer_by b d = if b then Some (Some []) else (if d then Some None else None)

control_answer : (b d : Bool) → is_none (answer_by b d) ≡ not (b || d)
control_answer true d = refl
control_answer false true = refl
control_answer false false = refl

named : (o : Option Relation) (t u : Tree) → is_none (named_answer o t u) ≡ not (is_some o)
named None t u = refl
named (Some r) t u = refl

abbrev pub some_key : ℕ → ℕ → Option Key
some_key a n = Some (a, n)

-- the predicate of a head, by its name and arity
pub atom_key : (a : ℕ) → head_key (atom a) ≡ (if is_builtin_key (a, 0) then None else some_key a 0)
atom_key a = ap (λ b. if b then some_key a 0 else None) (control_answer (a == TRUE) (a == FAIL)) ∙ go ((a == TRUE) || (a == FAIL)) (is_some (relation_named a))
  where
    go : (b d : Bool) → (if not b then some_key a 0 else None) ≡ (if (b && true) || (d && false) then None else some_key a 0)
    go true d = refl
    go false true = refl
    go false false = refl

pub node_key : (a : ℕ) (ts : Trees) → callable (node a ts) ≡ true → head_key (node a ts) ≡ (if is_builtin_key (a, count_trees ts) then None else some_key a (count_trees ts))
node_key a none c = absurd (false≢true c)
node_key a (more t none) c = go ((a == TRUE) || (a == FAIL)) (is_some (relation_named a))
  where
    go : (b d : Bool) → some_key a 1 ≡ (if (b && false) || (d && false) then None else some_key a 1)
    go true true = refl
    go true false = refl
    go false true = refl
    go false false = refl
node_key a (more t (more u none)) c = ap (λ b. if b then some_key a 2 else None) (named (relation_named a) t u) ∙ go ((a == TRUE) || (a == FAIL)) (is_some (relation_named a))
  where
    go : (b d : Bool) → (if not d then some_key a 2 else None) ≡ (if (b && false) || (d && true) then None else some_key a 2)
    go true true = refl
    go true false = refl
    go false true = refl
    go false false = refl
node_key a (more t (more u (more v ts))) c = go ((a == TRUE) || (a == FAIL)) (is_some (relation_named a)) (count_trees ts + 1 + 1 + 1 == 0) (count_trees ts + 1 + 1 + 1 == 2) zeroth second
  where
    n : ℕ
    n = count_trees ts + 1 + 1 + 1

    zeroth : (n == 0) ≡ false
    zeroth = grind (arith, nat_tests)

    second : (n == 2) ≡ false
    second = grind (arith, nat_tests)

    go : (b d e f : Bool) → e ≡ false → f ≡ false → some_key a n ≡ (if (b && e) || (d && f) then None else some_key a n)
    go b d e f i j = ap (λ q. if q then None else some_key a n) (sym (ap (λ e. (b && e) || (d && f)) i ∙ ap (λ f. (b && false) || (d && f)) j ∙ none b d))
      where
        none : (b d : Bool) → ((b && false) || (d && false)) ≡ false
        none true true = refl
        none true false = refl
        none false true = refl
        none false false = refl

-- ---- keys that are put into a table

pub heads_turn : (ks new : List Key) (cs : Program) (i : ℕ) (c : Clause) (w : List Key) → i < length cs → c ≡ get_or cs i c → new ≡ with_key ks (head_key c.head)
    → with_heads ks (drop i cs) ≡ w → with_heads new (drop (i + 1) cs) ≡ w
heads_turn ks new cs i c w l e n r =
    ap (λ ks. with_heads ks (drop (i + 1) cs)) n
    ∙ ap (λ d. with_heads (with_key ks (head_key d.head)) (drop (i + 1) cs)) e
    ∙ ap (with_heads ks) (sym (drop_more cs i c l))
    ∙ r

pub heads_end : (ks : List Key) (cs : Program) (i : ℕ) (w : List Key) → length cs ≤ i → with_heads ks (drop i cs) ≡ w → ks ≡ w
heads_end ks cs i w l r = ap (with_heads ks) (sym (drop_all i cs l)) ∙ r

abbrev lacks : List Key → Key → Bool
lacks ks l = not (list_any (is_key l) ks)

lacks_push : (ks : List Key) (k l : Key) → lacks (ks ++ k ∷ []) l ≡ (lacks ks l && not (is_key k l))
lacks_push [] k l = go (is_key l k) (is_key k l) (turned_key l k)
  where
    go : (b c : Bool) → b ≡ c → not (b || false) ≡ not c
    go true c e = ap not e
    go false c e = ap not e
lacks_push (j ∷ ks) k l = go (is_key l j) (lacks_push ks k l)
  where
    go : (b : Bool) → not (list_any (is_key l) (ks ++ k ∷ [])) ≡ (not (list_any (is_key l) ks) && not (is_key k l)) → not (b || list_any (is_key l) (ks ++ k ∷ [])) ≡ (not (b || list_any (is_key l) ks) && not (is_key k l))
    go true e = refl
    go false e = e

-- those that a table with one more key lacks
lacked : (ks : List Key) (k : Key) (ps : List Key) → filter (lacks (ks ++ k ∷ [])) ps ≡ filter (lacks ks) (filter (λ l. not (is_key k l)) ps)
lacked ks k [] = refl
lacked ks k (l ∷ ps) = ap (λ b. if b then l ∷ filter (lacks (ks ++ k ∷ [])) ps else filter (lacks (ks ++ k ∷ [])) ps) (lacks_push ks k l) ∙ go (lacks ks l) refl (is_key k l) (lacked ks k ps)
  where
    go : (b : Bool) → lacks ks l ≡ b → (c : Bool) → filter (lacks (ks ++ k ∷ [])) ps ≡ filter (lacks ks) (filter (λ l. not (is_key k l)) ps)
        → (if b && not c then l ∷ filter (lacks (ks ++ k ∷ [])) ps else filter (lacks (ks ++ k ∷ [])) ps)
        ≡ filter (lacks ks) (if not c then l ∷ filter (λ l. not (is_key k l)) ps else filter (λ l. not (is_key k l)) ps)
    go true d true e = e
    go true d false e = ap (λ ps. l ∷ ps) e ∙ sym (ap (λ b. if b then l ∷ filter (lacks ks) (filter (λ l. not (is_key k l)) ps) else filter (lacks ks) (filter (λ l. not (is_key k l)) ps)) d)
    go false d true e = e
    go false d false e = e ∙ sym (ap (λ b. if b then l ∷ filter (lacks ks) (filter (λ l. not (is_key k l)) ps) else filter (lacks ks) (filter (λ l. not (is_key k l)) ps)) d)

-- those that a table lacks that has the key
still_lacked : (ks : List Key) (k : Key) (ps : List Key) → list_any (is_key k) ks ≡ true → filter (lacks ks) ps ≡ filter (lacks ks) (filter (λ l. not (is_key k l)) ps)
still_lacked ks k [] h = refl
still_lacked ks k (l ∷ ps) h = go (is_key k l) refl (still_lacked ks k ps h)
  where
    go : (c : Bool) → is_key k l ≡ c → filter (lacks ks) ps ≡ filter (lacks ks) (filter (λ l. not (is_key k l)) ps)
        → (if lacks ks l then l ∷ filter (lacks ks) ps else filter (lacks ks) ps) ≡ filter (lacks ks) (if not c then l ∷ filter (λ l. not (is_key k l)) ps else filter (λ l. not (is_key k l)) ps)
    go true d e =
        let there : lacks ks l ≡ false = ap (λ l. lacks ks l) (sym (same_key k l d)) ∙ ap not h in
        ap (λ b. if b then l ∷ filter (lacks ks) ps else filter (lacks ks) ps) there ∙ e
    go false d e = ap (λ ps. if lacks ks l then l ∷ ps else ps) e

-- the table has its keys, and then those of the clauses that it lacks
pub heads_behind : (ks : List Key) (cs : Program) → with_heads ks cs ≡ ks ++ filter (lacks ks) (predicates_of cs)
heads_behind ks [] = sym (append_nil ks)
  where
    append_nil : (xs : List Key) → xs ++ [] ≡ xs
    append_nil [] = refl
    append_nil (x ∷ xs) = ap (λ l. x ∷ l) (append_nil xs)
heads_behind ks (c ∷ cs) = go (head_key c.head) (λ ks. heads_behind ks cs)
  where
    go : (o : Option Key) → ((ks : List Key) → with_heads ks cs ≡ ks ++ filter (lacks ks) (predicates_of cs)) → with_heads (with_key ks o) cs ≡ ks ++ filter (lacks ks) (first o (predicates_of cs))
    go None ih = ih ks
    go (Some k) ih = at (list_any (is_key k) ks) refl
      where
        at : (b : Bool) → list_any (is_key k) ks ≡ b
            → with_heads (if b then ks else ks ++ k ∷ []) cs ≡ ks ++ (if not b then k ∷ filter (lacks ks) (filter (λ l. not (is_key k l)) (predicates_of cs)) else filter (lacks ks) (filter (λ l. not (is_key k l)) (predicates_of cs)))
        at true d = ih ks ∙ ap (λ ps. ks ++ ps) (still_lacked ks k (predicates_of cs) d)
        at false d = ih (ks ++ k ∷ []) ∙ append_assoc ks (k ∷ []) _ ∙ ap (λ ps. ks ++ k ∷ ps) (lacked ks k (predicates_of cs))

none_lacked : (ps : List Key) → filter (lacks []) ps ≡ ps
none_lacked [] = refl
none_lacked (l ∷ ps) = ap (λ ps. l ∷ ps) (none_lacked ps)

-- a table that was empty has those of the clauses in order
pub heads_first : (cs : Program) → with_heads [] cs ≡ predicates_of cs
heads_first cs = heads_behind [] cs ∙ none_lacked (predicates_of cs)

-- ---- keys that are in a table

one_append : {A : Type 0} (x : A) (xs ys : List A) → IsOneOf x xs → IsOneOf x (xs ++ ys)
one_append x [] ys h = absurd h
one_append x (z ∷ xs) ys (inl e) = inl e
one_append x (z ∷ xs) ys (inr h) = inr (one_append x xs ys h)

one_pushed : {A : Type 0} (x : A) (xs : List A) → IsOneOf x (xs ++ x ∷ [])
one_pushed x [] = inl refl
one_pushed x (z ∷ xs) = inr (one_pushed x xs)

one_found : (k : Key) (ks : List Key) → list_any (is_key k) ks ≡ true → IsOneOf k ks
one_found k [] h = absurd (false≢true h)
one_found k (l ∷ ks) h = go (is_key k l) refl h (λ h. one_found k ks h)
  where
    go : (b : Bool) → is_key k l ≡ b → (b || list_any (is_key k) ks) ≡ true → (list_any (is_key k) ks ≡ true → IsOneOf k ks) → IsOneOf k (l ∷ ks)
    go true e h ih = inl (same_key k l e)
    go false e h ih = inr (ih h)

pub one_filtered : (f : Key → Bool) (k : Key) (ks : List Key) → IsOneOf k (filter f ks) → IsOneOf k ks
one_filtered f k [] h = absurd h
one_filtered f k (l ∷ ks) h = go (f l) h (λ h. one_filtered f k ks h)
  where
    go : (b : Bool) → IsOneOf k (if b then l ∷ filter f ks else filter f ks) → (IsOneOf k (filter f ks) → IsOneOf k ks) → IsOneOf k (l ∷ ks)
    go true (inl e) ih = inl e
    go true (inr h) ih = inr (ih h)
    go false h ih = inr (ih h)

key_stays : (k : Key) (ks : List Key) (o : Option Key) → IsOneOf k ks → IsOneOf k (with_key ks o)
key_stays k ks None h = h
key_stays k ks (Some l) h = go (list_any (is_key l) ks)
  where
    go : (b : Bool) → IsOneOf k (if b then ks else ks ++ l ∷ [])
    go true = h
    go false = one_append k ks (l ∷ []) h

pub heads_stay : (k : Key) (ks : List Key) (cs : Program) → IsOneOf k ks → IsOneOf k (with_heads ks cs)
heads_stay k ks [] h = h
heads_stay k ks (c ∷ cs) h = heads_stay k (with_key ks (head_key c.head)) cs (key_stays k ks (head_key c.head) h)

pub key_there : (k : Key) (ks : List Key) → IsOneOf k (with_key ks (Some k))
key_there k ks = go (list_any (is_key k) ks) refl
  where
    go : (b : Bool) → list_any (is_key k) ks ≡ b → IsOneOf k (if b then ks else ks ++ k ∷ [])
    go true e = one_found k ks e
    go false e = one_pushed k ks

pub heads_there : (k : Key) (ks : List Key) (cs : Program) → IsOneOf k (predicates_of cs) → IsOneOf k (with_heads ks cs)
heads_there k ks [] h = absurd h
heads_there k ks (c ∷ cs) h = go (head_key c.head) h (λ ks h. heads_there k ks cs h)
  where
    go : (o : Option Key) → IsOneOf k (first o (predicates_of cs)) → ((ks : List Key) → IsOneOf k (predicates_of cs) → IsOneOf k (with_heads ks cs)) → IsOneOf k (with_heads (with_key ks o) cs)
    go None h ih = ih ks h
    go (Some l) (inl e) ih = heads_stay k (with_key ks (Some l)) cs (subst (λ l. IsOneOf k (with_key ks (Some l))) e (key_there k ks))
    go (Some l) (inr h) ih = ih (with_key ks (Some l)) (one_filtered (λ m. not (is_key l m)) k (predicates_of cs) h)

pub one_at : {A : Type 0} (x : A) (xs : List A) → IsOneOf x xs → (i : ℕ) × (slice_get xs i ≡ Some x)
one_at x [] h = absurd h
one_at x (y ∷ xs) (inl e) = (0, ap Some (sym e))
one_at x (y ∷ xs) (inr h) = let r = one_at x xs h in (suc r.0, r.1)

at_one : {A : Type 0} (x : A) (xs : List A) (i : ℕ) → slice_get xs i ≡ Some x → IsOneOf x xs
at_one x [] i e = cc
at_one x (y ∷ xs) zero e = let same : x ≡ y = cc in inl same
at_one x (y ∷ xs) (suc i) e = inr (at_one x xs i e)

pub one_kept : {A : Type 0} (x : A) (xs ys : List A) → Keeps xs ys → IsOneOf x xs → IsOneOf x ys
one_kept x xs ys k h = let r = one_at x xs h in at_one x ys r.0 (k r.0 x r.1)

pub none_there : {A : Type 0} (x : A) (n : ℕ) → slice_get [] n ≡ Some x → ⊥
none_there x zero e = cc
none_there x (suc n) e = cc

-- a list that kept another one begins with it
pub kept_first : {A : Type 0} (xs ys : List A) → Keeps xs ys → take (length xs) ys ≡ xs
kept_first [] ys k = refl
kept_first (x ∷ xs) [] k = absurd (none_there x 0 (k 0 x refl))
kept_first (x ∷ xs) (y ∷ ys) k =
    let e : Some y ≡ Some x = k 0 x refl in
    let same : y ≡ x = cc in
    ap (λ z. z ∷ take (length xs) ys) same ∙ ap (λ zs. x ∷ zs) (kept_first xs ys (λ i z f. k (suc i) z f))

-- ---- predicates as they are laid out

pub keys_same : (qs : List Predicate) (ks : List Key) → ((n : ℕ) (q : Predicate) → slice_get qs n ≡ Some q → slice_get ks n ≡ Some (key_of q)) → slice_get ks (length qs) ≡ None → map key_of qs ≡ ks
keys_same [] [] h e = refl
keys_same [] (k ∷ ks) h e = cc
keys_same (q ∷ qs) [] h e = absurd (none_there (key_of q) 0 (h 0 q refl))
keys_same (q ∷ qs) (k ∷ ks) h e =
    let d : Some k ≡ Some (key_of q) = h 0 q refl in
    let same : k ≡ key_of q = cc in
    ap (λ l. l ∷ map key_of qs) (sym same) ∙ ap (λ l. k ∷ l) (keys_same qs ks (λ n r f. h (suc n) r f) e)

pub tiled_push : (at : ℕ) (qs : List Predicate) (q : Predicate) (mid end : ℕ) → AreTiled at qs mid → q.start ≡ mid → mid ≤ end → q.end ≡ end → AreTiled at (qs ++ q ∷ []) end
tiled_push at [] q mid end h s l e = (s ∙ sym h, omega (arith, h, e), e)
tiled_push at (r ∷ qs) q mid end h s l e = (h.0, h.1, tiled_push r.end qs q mid end h.2 s l e)

push_filter : (f : Predicate → Bool) (qs : List Predicate) (q : Predicate) → filter f (qs ++ q ∷ []) ≡ (if f q then filter f qs ++ q ∷ [] else filter f qs)
push_filter f [] q = refl
push_filter f (r ∷ qs) q = go (f r) (f q) (push_filter f qs q)
  where
    go : (b c : Bool) → filter f (qs ++ q ∷ []) ≡ (if c then filter f qs ++ q ∷ [] else filter f qs)
        → (if b then r ∷ filter f (qs ++ q ∷ []) else filter f (qs ++ q ∷ [])) ≡ (if c then (if b then r ∷ filter f qs else filter f qs) ++ q ∷ [] else (if b then r ∷ filter f qs else filter f qs))
    go true true e = ap (λ l. r ∷ l) e
    go true false e = ap (λ l. r ∷ l) e
    go false true e = e
    go false false e = e

take_short : {A : Type 0} (xs ys : List A) (m : ℕ) → m ≤ length xs → take m (xs ++ ys) ≡ take m xs
take_short [] ys zero l = refl
take_short [] ys (suc m) l = absurd (omega arith)
take_short (x ∷ xs) ys zero l = refl
take_short (x ∷ xs) ys (suc m) l = ap (λ zs. x ∷ zs) (take_short xs ys m (omega arith))

length_push : {A : Type 0} (xs : List A) (x : A) → length (xs ++ x ∷ []) ≡ length xs + 1
length_push [] x = refl
length_push (y ∷ xs) x = let e = length_push xs x in omega (arith, e)

-- one more predicate, which is listed if it is one of the first m
pub listed_push : (qs : List Predicate) (q : Predicate) (m : ℕ) → q.is_listed ≡ nat_lt (length qs) m → filter (λ q. q.is_listed) qs ≡ take m qs → filter (λ q. q.is_listed) (qs ++ q ∷ []) ≡ take m (qs ++ q ∷ [])
listed_push qs q m f h = push_filter (λ q. q.is_listed) qs q ∙ ap (λ b. if b then filter (λ q. q.is_listed) qs ++ q ∷ [] else filter (λ q. q.is_listed) qs) f ∙ go (nat_lt (length qs) m) refl
  where
    go : (b : Bool) → nat_lt (length qs) m ≡ b → (if b then filter (λ q. q.is_listed) qs ++ q ∷ [] else filter (λ q. q.is_listed) qs) ≡ take m (qs ++ q ∷ [])
    go true e =
        let l : length qs < m = grind (arith, nat_tests) in
        ap (λ l. l ++ q ∷ []) (h ∙ take_all m qs (omega arith)) ∙ sym (take_all m (qs ++ q ∷ []) (let n = length_push qs q in omega (arith, n)))
    go false e =
        let l : m ≤ length qs = grind (arith, nat_tests) in
        h ∙ sym (take_short qs (q ∷ []) m l)

pub take_map : {A B : Type 0} (f : A → B) (m : ℕ) (xs : List A) → map f (take m xs) ≡ take m (map f xs)
take_map f zero [] = refl
take_map f zero (x ∷ xs) = refl
take_map f (suc m) [] = refl
take_map f (suc m) (x ∷ xs) = ap (λ l. f x ∷ l) (take_map f m xs)
