-- Code that is kept, and clauses of queries behind it.
use Rattle.std.proofs.Common.{◌≡◌, ℕ, zero, suc, ◌<◌, ◌≤◌, ◌==◌, Bool, true, false, not, ◌&&◌, ◌||◌, if◌then◌else◌, ◌⊎◌, inl, inr, IsTrue, List, [], ◌∷◌, ◌++◌, append-nil, map, option_map, length, take, drop, get_or, ◌+◌, Option, slice_get, Some, None, refl, ap, ap₂, sym, ◌∙◌, subst, arith}
use Rattle.std.specs.List.{AllByRecursion, AllZip, IsDistinct, filter, list_any}
use Rattle.std.proofs.lemmas.Bool.{false≢true, and_parts}
use Rattle.std.proofs.lemmas.Bool.Decides.{Decides-eqb}
use Rattle.std.proofs.lemmas.List.{length-map, drop_more, drop_all}
use Rattle.std.proofs.lemmas.List.Elements.{filter-append, All-head, All-tail}
use Rattle.std.proofs.lemmas.Option.{slice_get-map}
use Rattle.ap_term.specs.Tree.{Tree, Trees, var, int, atom, node, count_trees}
use Rattle.ap_term.specs.declared.fixed.TheConstants.{QUERY}
use Rattle.ap_term.specs.Goals.{Clause, Program, Query}
use Rattle.ap_term.specs.WellFormed.{callable, numbered, IsClause, IsProgram}
use Rattle.ap_tracked.specs.Tracked.{IsOneOf}
use Rattle.ap_instr.specs.declared.instruction.Instr.{Instr}
use Rattle.ap_instr.specs.declared.compiled.Predicate.{Predicate}
use Rattle.ap_instr.specs.Code.{Compiled}
use Rattle.ap_instr.specs.StandsFor.{is_head_of, clauses_of, clause_places, ReadsAt, IsOfClauses, IsOfBuiltin, StandsForQuery, asked}
use Rattle.ap_instr.specs.Table.{Key, is_key, key_of, goal_key, head_key, predicates_of}
use Rattle.ap_codegen.specs.Assembled.{Numbered, Keeps, Grows, IsMade, heads, clauses_for, StandsBeside}
use Rattle.ap_codegen.specs.Heads.{with_key, with_heads}
use Rattle.ap_codegen.specs.declared.programs.Made.{Made}
use Rattle.ap_codegen.specs.Kept.{AreMade, is_new, are_new}
use Rattle.ap_codegen.specs.Permanent.{is_builtin_key}
use Rattle.ap_codegen.proofs.Growing.{holds_less}
use Rattle.ap_term.proofs.Lists.{same_key, own_key}
use Rattle.ap_codegen.proofs.Heads.{turned_key, some_key, atom_key, node_key, heads_first, heads_behind, heads_there, heads_stay, key_there, one_at, one_kept, one_filtered, none_there, kept_first}

-- ---- what is made

nothing_made : (t : Numbered) (p : Program) → IsMade t [] [] p
nothing_made t p = record {
  named = λ n q e. cc;
  stands = λ code later h w n q e. cc;
  tiled = refl;
  sequences = λ code later h w. tt;
  apart = λ code h. tt;
}

pub made_none : (t : Numbered) (is : List Instr) (qs : List Predicate) (p : Program) → is ≡ [] → qs ≡ [] → IsMade t is qs p
made_none t is qs p ei eq = subst (λ js. IsMade t js qs p) (sym ei) (subst (λ rs. IsMade t [] rs p) (sym eq) (nothing_made t p))

pub none_listed : (qs : List Predicate) (n : ℕ) → qs ≡ [] → filter (λ q. q.is_listed) qs ≡ take n qs
none_listed [] zero e = refl
none_listed [] (suc n) e = refl
none_listed (q ∷ qs) n e = absurd (cc)

-- it stays so by tables that have grown
pub made_grown : (t u : Numbered) (is : List Instr) (qs : List Predicate) (p : Program) → Grows t u → IsMade t is qs p → IsMade u is qs p
made_grown t u is qs p g made = record {
  named = λ n q e. g.predicates n (q.name, q.arity) (made.named n q e);
  stands = λ code later h. made.stands code later (holds_less t u code g h);
  tiled = made.tiled;
  sequences = λ code later h. made.sequences code later (holds_less t u code g h);
  apart = λ code h. made.apart code (holds_less t u code g h);
}

same_clauses : (q : Predicate) (p l : Program) → clauses_of q l ≡ [] → clauses_of q p ≡ clauses_of q (p ++ l)
same_clauses q p l e =
    sym (append-nil (clauses_of q p)) ∙ ap (λ cs. clauses_of q p ++ cs) (sym e) ∙ sym (filter-append (λ c. is_head_of q c.head) p l)

-- and for a program with clauses behind it that are for none of the predicates
made_beside : (t : Numbered) (is : List Instr) (qs : List Predicate) (p l : Program) → ((n : ℕ) (q : Predicate) → slice_get qs n ≡ Some q → clauses_of q l ≡ []) → IsMade t is qs p → IsMade t is qs (p ++ l)
made_beside t is qs p l none made = record {
  named = made.named;
  stands = λ code later h e n q at. let s = made.stands code later h e n q at in (of code q (none n q at) s.0, s.1);
  tiled = made.tiled;
  sequences = made.sequences;
  apart = made.apart;
}
  where
    of : (code : Compiled) (q : Predicate) → clauses_of q l ≡ [] → IsOfClauses code p q ⊎ IsOfBuiltin code q → IsOfClauses code (p ++ l) q ⊎ IsOfBuiltin code q
    of code q e (inl h) = inl (record { reads = subst (AllZip (ReadsAt code) (clause_places code q)) (same_clauses q p l e) h.reads; apart = h.apart })
    of code q e (inr h) = inr h

-- ---- keys in a table

key_found : (k : Key) (ks : List Key) (n : ℕ) → slice_get ks n ≡ Some k → list_any (is_key k) ks ≡ true
key_found k [] n e = cc
key_found k (l ∷ ks) zero e = let same : l ≡ k = cc in ap (λ b. b || list_any (is_key k) ks) (ap (is_key k) same ∙ own_key k)
key_found k (l ∷ ks) (suc n) e = go (is_key k l) (key_found k ks n e)
  where
    go : (b : Bool) → list_any (is_key k) ks ≡ true → (b || list_any (is_key k) ks) ≡ true
    go true h = refl
    go false h = h

-- a table that has the keys of predicates at their numbers keeps them
pub keys_keep : (qs : List Predicate) (ks : List Key) → ((n : ℕ) (q : Predicate) → slice_get qs n ≡ Some q → slice_get ks n ≡ Some (q.name, q.arity)) → Keeps (map key_of qs) ks
keys_keep qs ks h i k e = go (slice_get qs i) refl (sym (slice_get-map key_of qs i) ∙ e)
  where
    go : (o : Option Predicate) → slice_get qs i ≡ o → option_map key_of o ≡ Some k → slice_get ks i ≡ Some k
    go None d f = absurd (cc)
    go (Some q) d f = h i q d ∙ f

all_at : (P : Key → Type 0) (ks : List Key) (n : ℕ) (k : Key) → AllByRecursion P ks → slice_get ks n ≡ Some k → P k
all_at P [] n k a e = absurd (cc)
all_at P (l ∷ ks) zero k a e = let same : l ≡ k = cc in subst P same a.0
all_at P (l ∷ ks) (suc n) k a e = all_at P ks n k a.1 e

-- in a table that has each key once those behind its first ones are none of them
apart_behind : (ts bs : List Key) (n : ℕ) (k : Key) → IsDistinct is_key ts → Keeps bs ts → length bs ≤ n → slice_get ts n ≡ Some k → list_any (is_key k) bs ≡ false
unfolding IsDistinct
apart_behind ts [] n k d kept l e = refl
apart_behind [] (b ∷ bs) n k d kept l e = absurd (none_there b 0 (kept 0 b refl))
apart_behind (t ∷ ts) (b ∷ bs) zero k d kept l e = absurd (omega arith)
apart_behind (t ∷ ts) (b ∷ bs) (suc n) k d kept l e =
    let f : Some t ≡ Some b = kept 0 b refl in
    let same : t ≡ b = cc in
    let other : is_key k b ≡ false = ap (is_key k) (sym same) ∙ turned_key k t ∙ all_at (λ j. is_key t j ≡ false) ts n k d.0 e in
    ap (λ c. c || list_any (is_key k) bs) other ∙ apart_behind ts bs n k d.1 (λ i x g. kept (suc i) x g) (omega arith) e

pub apart_made : (s t : Numbered) (qs : List Predicate) (n : ℕ) (k : Key) → ((n : ℕ) (q : Predicate) → slice_get qs n ≡ Some q → slice_get s.predicates n ≡ Some (q.name, q.arity)) → Grows s t → IsDistinct is_key t.predicates → length qs ≤ n → slice_get t.predicates n ≡ Some k
    → list_any (is_key k) (map key_of qs) ≡ false
apart_made s t qs n k named g d l e =
    let m : length (map key_of qs) ≡ length qs = length-map qs key_of in
    apart_behind t.predicates (map key_of qs) n k d (λ i j f. g.predicates i j (keys_keep qs s.predicates named i j f)) (omega (arith, m, l)) e

one_any : (k : Key) (ks : List Key) → IsOneOf k ks → list_any (is_key k) ks ≡ true
one_any k ks h = let r = one_at k ks h in key_found k ks r.0 r.1

-- ---- clauses of predicates that a table lacks

not_head : (q : Predicate) (ks : List Key) (t : Tree) → list_any (is_key (key_of q)) ks ≡ true → is_new ks (goal_key t) ≡ true → is_head_of q t ≡ false
not_head q ks (var x) h e = refl
not_head q ks (int z) h e = refl
not_head q ks (atom a) h e = go ((a == q.name) && (q.arity == 0)) refl
  where
    go : (b : Bool) → ((a == q.name) && (q.arity == 0)) ≡ b → b ≡ false
    go false d = refl
    go true d =
        let r = and_parts (a == q.name) (q.arity == 0) d in
        let f : a ≡ q.name = (Decides-eqb a q.name).0 r.0 in
        let g : q.arity ≡ 0 = (Decides-eqb q.arity 0).0 r.1 in
        let same : key_of q ≡ (a, 0) = ap (λ n. (n, q.arity)) (sym f) ∙ ap (λ n. (a, n)) g in
        absurd (false≢true (sym (ap not (subst (λ k. list_any (is_key k) ks ≡ true) same h)) ∙ e))
not_head q ks (node a ts) h e = go ((a == q.name) && (count_trees ts == q.arity)) refl
  where
    go : (b : Bool) → ((a == q.name) && (count_trees ts == q.arity)) ≡ b → b ≡ false
    go false d = refl
    go true d =
        let r = and_parts (a == q.name) (count_trees ts == q.arity) d in
        let f : a ≡ q.name = (Decides-eqb a q.name).0 r.0 in
        let g : count_trees ts ≡ q.arity = (Decides-eqb (count_trees ts) q.arity).0 r.1 in
        let same : key_of q ≡ (a, count_trees ts) = ap (λ n. (n, q.arity)) (sym f) ∙ ap (λ n. (a, n)) (sym g) in
        absurd (false≢true (sym (ap not (subst (λ k. list_any (is_key k) ks ≡ true) same h)) ∙ e))

none_of : (q : Predicate) (ks : List Key) (l : Program) → list_any (is_key (key_of q)) ks ≡ true → are_new ks l ≡ true → clauses_of q l ≡ []
none_of q ks [] h e = refl
none_of q ks (c ∷ l) h e =
    let b = and_parts (is_new ks (goal_key c.head)) (are_new ks l) e in
    ap (λ b. if b then c ∷ clauses_of q l else clauses_of q l) (not_head q ks c.head h b.0) ∙ none_of q ks l h b.1

-- what is made of a program is so for the program with clauses behind it whose predicates the table lacks
pub made_behind : (t : Numbered) (is : List Instr) (qs : List Predicate) (p l : Program) → are_new t.predicates l ≡ true → IsMade t is qs p → IsMade t is qs (p ++ l)
made_behind t is qs p l e made = made_beside t is qs p l (λ n q at. none_of q t.predicates l (key_found (key_of q) t.predicates n (made.named n q at)) e) made

both_true : (a b : Bool) → IsTrue (a && b) → a ≡ true
both_true true b h = refl
both_true false b h = absurd (false≢true h)

head_is : (k : Key) (t : Tree) → callable t ≡ true → is_builtin_key k ≡ false → heads k t ≡ true → head_key t ≡ Some k
head_is k (var x) c b h = absurd (false≢true h)
head_is k (int z) c b h = absurd (false≢true h)
head_is k (atom a) c b h =
    let same : (a, 0) ≡ k = same_key (a, 0) k h in
    atom_key a ∙ ap (λ b. if b then None else some_key a 0) (ap is_builtin_key same ∙ b) ∙ ap Some same
head_is k (node a ts) c b h =
    let same : (a, count_trees ts) ≡ k = same_key (a, count_trees ts) k h in
    node_key a ts c ∙ ap (λ b. if b then None else some_key a (count_trees ts)) (ap is_builtin_key same ∙ b) ∙ ap Some same

none_for : (k : Key) (ks : List Key) (p : Program) → IsProgram p → is_builtin_key k ≡ false → (IsOneOf k (with_heads ks p) → ⊥) → clauses_for k p ≡ []
none_for k ks [] good b away = refl
none_for k ks (c ∷ p) good b away = go (heads k c.head) refl (none_for k (with_key ks (head_key c.head)) p (All-tail IsClause c p good) b away)
  where
    go : (d : Bool) → heads k c.head ≡ d → clauses_for k p ≡ [] → (if d then c ∷ clauses_for k p else clauses_for k p) ≡ []
    go false d rest = rest
    go true d rest =
        let is : IsClause c = All-head IsClause c p good in
        let e = head_is k c.head (both_true (callable c.head) (numbered c.vars c.head) is.head) b d in
        absurd (away (subst (λ o. IsOneOf k (with_heads (with_key ks o) p)) (sym e) (heads_stay k (with_key ks (Some k)) p (key_there k ks))))

-- a predicate that the table lacks has no clause
pub others_none : (k : Key) (ks : List Key) (p : Program) → IsProgram p → Keeps (with_heads [] p) ks → list_any (is_key k) ks ≡ false → is_builtin_key k ≡ false → clauses_for k p ≡ []
others_none k ks p good kept e b =
    none_for k [] p good b (λ h. false≢true (sym e ∙ one_any k ks (one_kept k (with_heads [] p) ks kept h)))

pub found_behind : (k : Key) (p l found : Program) → found ≡ clauses_for k l → clauses_for k p ≡ [] → found ≡ clauses_for k (p ++ l)
found_behind k p l found e none = e ∙ ap (λ cs. cs ++ clauses_for k l) (sym none) ∙ sym (filter-append (λ c. heads k c.head) p l)

-- ---- all predicates of both

heads_append : (ks : List Key) (p l : Program) → with_heads ks (p ++ l) ≡ with_heads (with_heads ks p) l
heads_append ks [] l = refl
heads_append ks (c ∷ p) l = heads_append (with_key ks (head_key c.head)) p l

one_either : (k : Key) (xs ys : List Key) → IsOneOf k (xs ++ ys) → IsOneOf k xs ⊎ IsOneOf k ys
one_either k [] ys h = inr h
one_either k (x ∷ xs) ys (inl e) = inl (inl e)
one_either k (x ∷ xs) ys (inr h) = elim (one_either k xs ys h) [ inl g ↦ inl (inr g) | inr g ↦ inr g ]

pub has_both : (k : Key) (s : List Key) (t : List Key) (p l : Program) → Keeps (with_heads [] p) s → Keeps s t → Keeps (with_heads s l) t → IsOneOf k (predicates_of (p ++ l)) → IsOneOf k t
has_both k s t p l first grows own h = at (one_either k (with_heads [] p) _ (subst (IsOneOf k) (sym (heads_first (p ++ l)) ∙ heads_append [] p l ∙ heads_behind (with_heads [] p) l) h))
  where
    at : IsOneOf k (with_heads [] p) ⊎ IsOneOf k (filter (λ j. not (list_any (is_key j) (with_heads [] p))) (predicates_of l)) → IsOneOf k t
    at (inl g) = one_kept k s t grows (one_kept k (with_heads [] p) s first g)
    at (inr g) = one_kept k (with_heads s l) t own (heads_there k s l (one_filtered (λ j. not (list_any (is_key j) (with_heads [] p))) k (predicates_of l) g))

-- ---- whether clauses are new

new_more : (ks : List Key) (cs : Program) (i : ℕ) (c : Clause) → i < length cs → c ≡ get_or cs i c → are_new ks (drop i cs) ≡ (is_new ks (goal_key c.head) && are_new ks (drop (i + 1) cs))
new_more ks cs i c l e = ap (are_new ks) (drop_more cs i c l ∙ ap (λ d. d ∷ drop (i + 1) cs) (sym e))

pub new_turn : (ks : List Key) (cs : Program) (i : ℕ) (c : Clause) (whole : Bool) → i < length cs → c ≡ get_or cs i c → is_new ks (goal_key c.head) ≡ true → are_new ks (drop i cs) ≡ whole → are_new ks (drop (i + 1) cs) ≡ whole
new_turn ks cs i c whole l e n k = ap (λ b. b && are_new ks (drop (i + 1) cs)) (sym n) ∙ sym (new_more ks cs i c l e) ∙ k

pub new_found : (ks : List Key) (cs : Program) (i : ℕ) (c : Clause) (whole : Bool) → i < length cs → c ≡ get_or cs i c → is_new ks (goal_key c.head) ≡ false → are_new ks (drop i cs) ≡ whole → false ≡ whole
new_found ks cs i c whole l e n k = ap (λ b. b && are_new ks (drop (i + 1) cs)) (sym n) ∙ sym (new_more ks cs i c l e) ∙ k

pub new_done : (ks : List Key) (cs : Program) (i : ℕ) (whole : Bool) → length cs ≤ i → are_new ks (drop i cs) ≡ whole → true ≡ whole
new_done ks cs i whole l k = ap (are_new ks) (sym (drop_all i cs l)) ∙ k

pub ruleset rules_of_new = (new_turn, new_found, new_done)

-- ---- what is kept

-- copies are made of what was
pub copied_made : (t : Numbered) (m n : Made) (k : ℕ) (p : Program) → n.instructions.items ≡ m.instructions.items → n.predicates.items ≡ m.predicates.items → AreMade t m k p → AreMade t n k p
copied_made t m n k p ei eq a = record {
  made = subst (λ is. IsMade t is n.predicates.items p) (sym ei) (subst (λ qs. IsMade t m.instructions.items qs p) (sym eq) a.made);
  all = ap (λ qs. slice_get t.predicates (length qs)) eq ∙ a.all;
  heads = a.heads;
  others = a.others;
  count = a.count;
  flags = subst (λ qs. filter (λ q. q.is_listed) qs ≡ take k qs) (sym eq) a.flags;
}

-- tables that grew are what they were where they are cut
pub cut_back : (s t u : Numbered) (a b : ℕ) → Grows s t → a ≡ length s.integers → b ≡ length s.predicates → u ≡ record { integers = take a t.integers; predicates = take b t.predicates } → u ≡ s
cut_back s t u a b g ea eb e =
    e
    ∙ ap₂ (λ i j. record { integers = take i t.integers; predicates = take j t.predicates }) ea eb
    ∙ ap₂ (λ zs ks. record { integers = zs; predicates = ks }) (kept_first s.integers t.integers g.integers) (kept_first s.predicates t.predicates g.predicates)

-- code that stands beside the clauses of a query stands for the query
pub stands_asked : (code : Compiled) (p : Program) (q : Query) (n : ℕ) (own : Program) → n ≡ q.question.vars → own ≡ asked q ∷ q.lifted → StandsBeside code (QUERY, n) p (p ++ own) → StandsForQuery code p q
stands_asked code p q n own en eo h =
    let s = subst (λ cs. StandsBeside code (QUERY, q.question.vars) p (p ++ cs)) eo (subst (λ n. StandsBeside code (QUERY, n) p (p ++ own)) en h) in
    record { number = s.number; predicate = s.predicate; is_query = s.is_query; held = s.held; named = s.named; arity = s.arity; stands = s.stands; whole = s.whole }
