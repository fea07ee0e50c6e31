-- Predicates that are put behind others.
use Rattle.std.proofs.Common.{◌≡◌, ℕ, zero, suc, ◌+◌, ◌<◌, ◌≤◌, ℤ, Bool, true, false, ◌||◌, ◌&&◌, ◌==◌, if◌then◌else◌, ◌⊎◌, inl, inr, List, [], ◌∷◌, ◌++◌, map, length, take, slice_get, get_or, nat_le, nat_lt, min, Option, Some, None, refl, ap, ap₂, sym, ◌∙◌, subst, arith, append_assoc, append-nil, IsTrue}
use Rattle.std.proofs.Common.{cond}
use Rattle.std.specs.Prelude.{unwrap_or}
use Rattle.std.specs.Map.{lookup}
use Rattle.ap_reach.specs.contracts.called.CalledPartialEq.TheImpl.{eq-value}
use Rattle.ap_reach.specs.Index.{clauses_of, found}
use Rattle.ap_reach.specs.declared.predicates.Own.{Own}
use Rattle.ap_reach.specs.declared.predicates.Own.TheVariants as own
use Rattle.std.specs.List.{All, list_all, list_any}
use Rattle.std.specs.Ordering.{int_eq}
use Rattle.std.proofs.lemmas.List.{take_more, take-append-le, take_all, map-append}
use Rattle.std.proofs.lemmas.List.Folds.{list_any-append}
use Rattle.std.proofs.lemmas.List.Elements.{All-nil, All-append, All-cons, All-head, All-tail, All-more, All-weaker}
use Rattle.std.proofs.lemmas.Bool.{false≢true}
use Rattle.std.proofs.lemmas.Bool.Decides.{Decides-eqb, Decides-ltb}
use Rattle.std.proofs.lemmas.Grind.{flat_map-append}
use Rattle.ap_term.specs.Tree.{Tree, Trees, var, int, atom, node, none, more, append_trees, count_trees}
use Rattle.ap_term.specs.declared.terms.Term.{Term}
use Rattle.ap_term.specs.TermView.{tree_of, trees_of}
use Rattle.ap_term.specs.Goals.{Part, call, group, Clause, Program, plain_goals}
use Rattle.ap_term.specs.WellFormed.{callable, all_callable, numbered, numbered_all, numbered_check, well_formed_part}
use Rattle.ap_term.proofs.Lists.{filter-push, own_key}
use Rattle.ap_reach.specs.declared.called.Called.{Called}
use Rattle.ap_reach.specs.declared.called.Called.TheVariants.{All as Whole, Atom, Integer}
use Rattle.ap_reach.specs.declared.called.TheConstants.{PLACES}
use Rattle.ap_reach.specs.Reached.{is_key, Place, is_place, is_called, has_call, place_of, is_near, is_beside, Extends, heads, argument, is_variable, fits, heads_open, is_open, is_open_before, is_before, leads, leads_before, is_for, answers, clauses_for, all_called, contribution, gathered, is_among, IsAmong, AreAmong, BodyIsAmong, CallsAmong, IsNamed, AreNamed, IsPartNamed}
use Rattle.ap_reach.proofs.Same.{own_call}
use Rattle.ap_reach.specs.Hashed.{same_call, called_eq}

pub extends_none : (ks : List Called) → Extends ks ks
extends_none ks = ([], sym (append-nil ks))

pub extends_on : (ks ls ms : List Called) → Extends ks ls → Extends ls ms → Extends ks ms
extends_on ks ls ms g h = (g.0 ++ h.0, h.1 ∙ ap (λ l. l ++ h.0) g.1 ∙ append_assoc ks g.0 h.0)

any_more : (P : Called → Bool) (ks ls : List Called) → Extends ks ls → list_any P ks ≡ true → list_any P ls ≡ true
any_more P ks ls g h = ap (list_any P) g.1 ∙ list_any-append P ks g.0 ∙ ap (λ b. b || list_any P g.0) h

module _ (w : Program) where
  among_more : (ks ls : List Called) (t : Tree) → Extends ks ls → IsAmong w ks t → IsAmong w ls t
  among_more ks ls t g h = any_more (λ k. answers w k t) ks ls g h

  all_among_more : (ks ls : List Called) (ts : Trees) → Extends ks ls → AreAmong w ks ts → AreAmong w ls ts
  all_among_more ks ls none g h = tt
  all_among_more ks ls (more t ts) g h = (among_more ks ls t g h.0, all_among_more ks ls ts g h.1)

  pub named_more : (ks ls : List Called) (t : Tree) → Extends ks ls → IsNamed w ks t → IsNamed w ls t
  named_more ks ls t g h c = among_more ks ls t g (h c)

  all_named_more : (ks ls : List Called) (ts : Trees) → Extends ks ls → AreNamed w ks ts → AreNamed w ls ts
  all_named_more ks ls none g h = tt
  all_named_more ks ls (more t ts) g h = (named_more ks ls t g h.0, all_named_more ks ls ts g h.1)

  pub part_named_more : (ks ls : List Called) (p : Part) → Extends ks ls → IsPartNamed w ks p → IsPartNamed w ls p
  part_named_more ks ls (call t) g h = named_more ks ls t g h
  part_named_more ks ls (group cs ts) g h = all_named_more ks ls ts g h

  pub body_more : (ks ls : List Called) (c : Clause) → Extends ks ls → BodyIsAmong w ks c → BodyIsAmong w ls c
  body_more ks ls c g h = all_among_more ks ls (plain_goals c.body) g h

  pub calls_more : (ks ls : List Called) (p : Program) → Extends ks ls → CallsAmong w ks p → CallsAmong w ls p
  calls_more ks ls p g h = All-weaker (BodyIsAmong w ks) (BodyIsAmong w ls) (λ c. body_more ks ls c g) p h

-- ---- loops

module _ {X : Type 0} (P : List Called → X → Type 0) (keeps : (ks ls : List Called) (x : X) → Extends ks ls → P ks x → P ls x) where
  pub turn : (xs : List X) (i : ℕ) (x : X) (ks ls ms : List Called) → i < length xs → x ≡ get_or xs i x → Extends ks ls → Extends ls ms → P ms x → All (P ls) (take i xs)
      → Extends ks ms × All (P ms) (take (i + 1) xs)
  turn xs i x ks ls ms l e g h p a = (
    extends_on ks ls ms g h,
    All-more (P ms) xs i x l (All-weaker (P ls) (P ms) (λ y. keeps ls ms y h) (take i xs) a) (subst (P ms) e p),
  )

  pub done : (xs : List X) (i : ℕ) (ks : List Called) → length xs ≤ i → All (P ks) (take i xs) → All (P ks) xs
  done xs i ks l a = subst (All (P ks)) (take_all i xs l) a

-- ---- goals of bodies

pub are_named : (w : Program) (ks : List Called) (ts : List Term) → All (λ t. IsNamed w ks (tree_of t)) ts → AreNamed w ks (trees_of ts)
are_named w ks [] h = tt
are_named w ks (t ∷ ts) h = (All-head (λ t. IsNamed w ks (tree_of t)) t ts h, are_named w ks ts (All-tail (λ t. IsNamed w ks (tree_of t)) t ts h))

both_true : (a b : Bool) → IsTrue (a && b) → IsTrue a × IsTrue b
both_true true b h = (refl, h)
both_true false b h = absurd (false≢true h)

goals_among : (w : Program) (ks : List Called) (ts us : Trees) → AreNamed w ks ts → IsTrue (all_callable ts) → AreAmong w ks us → AreAmong w ks (append_trees ts us)
goals_among w ks none us h c a = a
goals_among w ks (more t ts) us h c a =
    let b = both_true (callable t) (all_callable ts) c in
    (h.0 b.0, goals_among w ks ts us h.1 b.1 a)

pub body_among : (w : Program) (ks : List Called) (n : ℕ) (ps : List Part) → All (IsPartNamed w ks) ps → IsTrue (list_all (well_formed_part n) ps) → AreAmong w ks (plain_goals ps)
body_among w ks n [] h good = tt
body_among w ks n (call t ∷ ps) h good =
    let b = both_true (well_formed_part n (call t)) (list_all (well_formed_part n) ps) good in
    (All-head (IsPartNamed w ks) (call t) ps h (both_true (callable t) (numbered n t) b.0).0, body_among w ks n ps (All-tail (IsPartNamed w ks) (call t) ps h) b.1)
body_among w ks n (group cs ts ∷ ps) h good =
    let b = both_true (well_formed_part n (group cs ts)) (list_all (well_formed_part n) ps) good in
    let d = both_true (list_all (numbered_check n) cs) (nat_le 1 (count_trees ts) && (all_callable ts && numbered_all n ts)) b.0 in
    let e = both_true (nat_le 1 (count_trees ts)) (all_callable ts && numbered_all n ts) d.1 in
    goals_among w ks ts (plain_goals ps) (All-head (IsPartNamed w ks) (group cs ts) ps h) (both_true (all_callable ts) (numbered_all n ts) e.1).0
    (body_among w ks n ps (All-tail (IsPartNamed w ks) (group cs ts) ps h) b.1)

-- ---- clauses that are put behind others

module _ {R : Type 0} (now : R → Clause) where
  pub taken_turn : (rs : List R) (i : ℕ) (r : R) (p q new : Program) → i < length rs → r ≡ get_or rs i r → q ≡ p ++ map now (take i rs) → new ≡ q ++ now r ∷ [] → new ≡ p ++ map now (take (i + 1) rs)
  taken_turn rs i r p q new l e s n =
      n ∙ ap (λ z. z ++ now r ∷ []) s ∙ append_assoc p (map now (take i rs)) (now r ∷ [])
      ∙ ap (λ z. p ++ z) (sym (map-append now (take i rs) (r ∷ [])) ∙ ap (map now) (ap (λ z. take i rs ++ z ∷ []) e ∙ sym (take_more rs i r l)))

  pub taken_done : (rs : List R) (i : ℕ) (p q : Program) → length rs ≤ i → q ≡ p ++ map now (take i rs) → q ≡ p ++ map now rs
  taken_done rs i p q l s = s ∙ ap (λ z. p ++ map now z) (take_all i rs l)

front : (ks : List Called) (n : ℕ) (k : Called) → slice_get ks n ≡ Some k → take (n + 1) ks ≡ take n ks ++ k ∷ []
front [] n k e = cc
front (l ∷ ks) zero k e = let same : l ≡ k = cc in ap (λ m. m ∷ []) same
front (l ∷ ks) (suc n) k e = let m : suc n + 1 ≡ suc (n + 1) = omega arith in ap (λ m. take m (l ∷ ks)) m ∙ ap (λ z. l ∷ z) (front ks n k e)

within : (ks : List Called) (n : ℕ) (k : Called) → slice_get ks n ≡ Some k → n < length ks
within [] n k e = cc
within (l ∷ ks) zero k e = omega arith
within (l ∷ ks) (suc n) k e = let r = within ks n k e in omega arith

beyond : (ks : List Called) (n : ℕ) → slice_get ks n ≡ None → length ks ≤ n
beyond [] n e = omega arith
beyond (l ∷ ks) zero e = cc
beyond (l ∷ ks) (suc n) e = let r = beyond ks n e in omega arith

called_more : (ks : List Called) (k : Called) (p : Program) → all_called (ks ++ k ∷ []) p ≡ all_called ks p ++ clauses_for k p
called_more ks k p = flat_map-append (λ l. clauses_for l p) ks (k ∷ []) ∙ ap (λ z. all_called ks p ++ z) (append-nil (clauses_for k p))

-- what one more calls is called
pub find_turn : (ks ls : List Called) (n : ℕ) (k : Called) (p : Program) → Extends ks ls → slice_get ks n ≡ Some k → CallsAmong p ls (clauses_for k p) → CallsAmong p ks (all_called (take n ks) p) → CallsAmong p ls (all_called (take (n + 1) ls) p)
find_turn ks ls n k p g at h a =
    let fits : n + 1 ≤ length ks = let w = within ks n k at in omega arith in
    let more : all_called (take (n + 1) ls) p ≡ all_called (take n ks) p ++ clauses_for k p =
    ap (λ z. all_called z p) (ap (take (n + 1)) g.1 ∙ take-append-le (n + 1) ks g.0 fits ∙ front ks n k at) ∙ called_more (take n ks) k p
    in
    subst (CallsAmong p ls) (sym more) (All-append (BodyIsAmong p ls) (all_called (take n ks) p) (clauses_for k p) (calls_more p ks ls (all_called (take n ks) p) g a) h)

pub find_done : (ks : List Called) (n : ℕ) (p : Program) → slice_get ks n ≡ None → CallsAmong p ks (all_called (take n ks) p) → CallsAmong p ks (all_called ks p)
find_done ks n p at h = subst (λ z. CallsAmong p ks (all_called z p)) (take_all n ks (beyond ks n at)) h

-- what is put in is among what is called
some_called : (P : Clause → Type 0) (b : Bool) (cs : Program) → All P cs → All P (if b then [] else cs)
some_called P true cs h = All-nil P
some_called P false cs h = h

left_of : (P : Clause → Type 0) (xs ys : Program) → All P (xs ++ ys) → All P xs
left_of P [] ys h = All-nil P
left_of P (x ∷ xs) ys h = All-cons P x xs (All-head P x (xs ++ ys) h) (left_of P xs ys (All-tail P x (xs ++ ys) h))

right_of : (P : Clause → Type 0) (xs ys : Program) → All P (xs ++ ys) → All P ys
right_of P [] ys h = h
right_of P (x ∷ xs) ys h = right_of P xs ys (All-tail P x (xs ++ ys) h)

gathered_calls : (P : Clause → Type 0) (ks ls : List Called) (p : Program) → All P (all_called ls p) → All P (gathered ks ls p)
gathered_calls P ks [] p h = h
gathered_calls P ks (l ∷ ls) p h =
    All-append P (contribution ks p l) (gathered ks ls p) (some_called P (is_beside ks l) (clauses_for l p) (left_of P (clauses_for l p) (all_called ls p) h))
    (gathered_calls P ks ls p (right_of P (clauses_for l p) (all_called ls p) h))

pub reached_calls : (p : Program) (ks : List Called) (c : Clause) (l r : Program) → BodyIsAmong p ks c → CallsAmong p ks l → CallsAmong p ks (all_called ks p) → r ≡ gathered ks ks p → CallsAmong p ks (r ++ c ∷ l)
reached_calls p ks c l r b h a e =
    All-append (BodyIsAmong p ks) r (c ∷ l) (subst (CallsAmong p ks) (sym e) (gathered_calls (BodyIsAmong p ks) ks ks p a)) (All-cons (BodyIsAmong p ks) c l b h)

-- ---- what a goal calls

-- a goal of a call that is there is among them
pub among-call : (p : Program) (ks : List Called) (k : Called) (t : Tree) → has_call ks k ≡ true → answers p k t ≡ true → is_among p ks t ≡ true
among-call p [] k t h a = h
among-call p (l ∷ ks) k t h a = go (is_called k l) refl h (among-call p ks k t)
  where
    behind : (b c : Bool) → c ≡ true → (b || c) ≡ true
    behind true c e = refl
    behind false c e = e

    go : (b : Bool) → is_called k l ≡ b → (b || has_call ks k) ≡ true → (has_call ks k ≡ true → answers p k t ≡ true → is_among p ks t ≡ true) → (answers p l t || is_among p ks t) ≡ true
    go true e i ih = ap (λ b. b || is_among p ks t) (ap (λ m. answers p m t) (sym (same_call k l e)) ∙ a)
    go false e i ih = behind (answers p l t) (is_among p ks t) (ih i a)

pub heads-count : (f n : ℕ) (ts : Trees) → n ≡ count_trees ts → heads (f, n) (node f ts) ≡ true
heads-count f n ts e = ap (λ m. is_key (f, count_trees ts) (f, m)) e ∙ own_key (f, count_trees ts)

pub whole-answers : (p : Program) (f : ℕ) (ts : Trees) → answers p (Whole f (count_trees ts)) (node f ts) ≡ true
whole-answers p f ts = own_key (f, count_trees ts)

-- ---- clauses by predicate

clauses_take : (k : Called) (cs : Program) (i : ℕ) (c : Clause) → i < length cs → c ≡ get_or cs i c
    → clauses_for k (take (i + 1) cs) ≡ (if leads k c.head then clauses_for k (take i cs) ++ c ∷ [] else clauses_for k (take i cs))
clauses_take k cs i c l e = ap (clauses_for k) (take_more cs i c l) ∙ ap (λ d. clauses_for k (take i cs ++ d ∷ [])) (sym e) ∙ filter-push (λ c. leads k c.head) (take i cs) c

-- one more clause in the index
pub index_turn : (k : Called) (cs : Program) (i : ℕ) (c : Clause) (old new : Program) → i < length cs → c ≡ get_or cs i c → new ≡ (if leads k c.head then old ++ c ∷ [] else old)
    → old ≡ clauses_for k (take i cs) → new ≡ clauses_for k (take (i + 1) cs)
index_turn k cs i c old new l e n o = n ∙ ap (λ p. if leads k c.head then p ++ c ∷ [] else p) o ∙ sym (clauses_take k cs i c l e)

pub index_end : (k : Called) (cs : Program) (i : ℕ) (old : Program) → length cs ≤ i → old ≡ clauses_for k (take i cs) → old ≡ clauses_for k cs
index_end k cs i old l o = o ∙ ap (clauses_for k) (take_all i cs l)

-- ---- places with a variable

pub open_turn : (k : Place) (cs : Program) (i : ℕ) (c : Clause) (old new : Bool) → i < length cs → c ≡ get_or cs i c → new ≡ (old || heads_open k c.head) → old ≡ is_open k (take i cs) → new ≡ is_open k (take (i + 1) cs)
open_turn k cs i c old new l e n o =
    n ∙ ap (λ b. b || heads_open k c.head) o
    ∙ sym (ap (is_open k) (take_more cs i c l) ∙ ap (λ d. is_open k (take i cs ++ d ∷ [])) (sym e) ∙ list_any-append (λ c. heads_open k c.head) (take i cs) (c ∷ []) ∙ ap (λ b. is_open k (take i cs) || b) (last (heads_open k c.head)))
  where
    last : (b : Bool) → (b || false) ≡ b
    last true = refl
    last false = refl

pub open_end : (k : Place) (cs : Program) (i : ℕ) (old : Bool) → length cs ≤ i → old ≡ is_open k (take i cs) → old ≡ is_open k cs
open_end k cs i old l o = o ∙ ap (is_open k) (take_all i cs l)

-- ---- arguments

pub argument-trees_of : (ts : List Term) (i : ℕ) (t : Term) → i < length ts → t ≡ get_or ts i t → argument (trees_of ts) i ≡ Some (tree_of t)
argument-trees_of [] i t l e = absurd (omega arith)
argument-trees_of (u ∷ ts) zero t l e = ap (λ v. Some (tree_of v)) (sym e)
argument-trees_of (u ∷ ts) (suc i) t l e = argument-trees_of ts i t (omega arith) e

argument-within : (ts : Trees) (i : ℕ) (t : Tree) → argument ts i ≡ Some t → i < count_trees ts
argument-within none i t e = cc
argument-within (more u ts) zero t e = omega arith
argument-within (more u ts) (suc i) t e = let r = argument-within ts i t e in omega arith

-- the i-th place
abbrev is_at : ℕ → Option ℕ → Bool
is_at i None = false
is_at i (Some j) = i == j

before_more : (i : ℕ) (o : Option ℕ) → is_before (i + 1) o ≡ (is_before i o || is_at i o)
before_more i None = refl
before_more i (Some j) = go (nat_lt j i) refl (i == j) refl
  where
    go : (b : Bool) → nat_lt j i ≡ b → (c : Bool) → (i == j) ≡ c → nat_lt j (i + 1) ≡ (b || c)
    go true e c f = let l = (Decides-ltb j i).0 e in (Decides-ltb j (i + 1)).1 (omega arith)
    go false e true f = let s : i ≡ j = (Decides-eqb i j).0 f in (Decides-ltb j (i + 1)).1 (omega arith)
    go false e false f = last (nat_lt j (i + 1)) refl
      where
        last : (d : Bool) → nat_lt j (i + 1) ≡ d → d ≡ false
        last false g = refl
        last true g = absurd (false≢true (sym (other (nat_lt j i) refl) ∙ either (i == j) refl))
          where
            other : (x : Bool) → nat_lt j i ≡ x → nat_lt j i ≡ false
            other x y = e

            either : (x : Bool) → (i == j) ≡ x → nat_lt j i ≡ true
            either x y = let l = (Decides-ltb j (i + 1)).0 g in (Decides-ltb j i).1 (below l)
              where
                below : j < i + 1 → j < i
                below l = let n : (i ≡ j → ⊥) = λ s. false≢true (sym f ∙ (Decides-eqb i j).1 s) in omega arith

before_once : (i : ℕ) (o : Option ℕ) → (is_before i o && is_at i o) ≡ false
before_once i None = refl
before_once i (Some j) = go (nat_lt j i) refl (i == j) refl
  where
    go : (b : Bool) → nat_lt j i ≡ b → (c : Bool) → (i == j) ≡ c → (b && c) ≡ false
    go true e true f = let l = (Decides-ltb j i).0 e in let s : i ≡ j = (Decides-eqb i j).0 f in absurd (omega arith)
    go true e false f = refl
    go false e c f = refl

shuffle : (a b c d : Bool) → (a && (b && (c && d))) ≡ (c && (d && (a && b)))
shuffle true true true true = refl
shuffle true true true false = refl
shuffle true true false d = refl
shuffle true false true true = refl
shuffle true false true false = refl
shuffle true false false d = refl
shuffle false b true true = refl
shuffle false b true false = refl
shuffle false b false d = refl

never : (a : Bool) → false ≡ (a && false)
never true = refl
never false = refl

is_for-atom : (f n i : ℕ) (t : Tree) (g m j b : ℕ) → is_for f n i t (Atom g m j b) ≡ (is_at i (Some j) && (fits (Atom g m j b) (Some t) && is_key (f, n) (g, m)))
is_for-atom f n i (var x) g m j b = never (i == j)
is_for-atom f n i (int z) g m j b = never (i == j)
is_for-atom f n i (node c ts) g m j b = never (i == j)
is_for-atom f n i (atom a) g m j b = shuffle (f == g) (n == m) (i == j) (a == b)

is_for-integer : (f n i : ℕ) (t : Tree) (g m j : ℕ) (b : ℤ) → is_for f n i t (Integer g m j b) ≡ (is_at i (Some j) && (fits (Integer g m j b) (Some t) && is_key (f, n) (g, m)))
is_for-integer f n i (var x) g m j b = never (i == j)
is_for-integer f n i (atom a) g m j b = never (i == j)
is_for-integer f n i (node c ts) g m j b = never (i == j)
is_for-integer f n i (int z) g m j b = shuffle (f == g) (n == m) (i == j) (int_eq z b)

is_for-whole : (f n i : ℕ) (t : Tree) (g m : ℕ) → is_for f n i t (Whole g m) ≡ false
is_for-whole f n i (var x) g m = refl
is_for-whole f n i (atom a) g m = refl
is_for-whole f n i (int z) g m = refl
is_for-whole f n i (node c ts) g m = refl

-- where the place is the i-th, its argument is
at_place : (P : Option Tree → Bool) (ts : Trees) (i j : ℕ) (t : Tree) → argument ts i ≡ Some t → ((i == j) && P (Some t)) ≡ ((i == j) && P (argument ts j))
at_place P ts i j t e = go (i == j) refl
  where
    go : (b : Bool) → (i == j) ≡ b → (b && P (Some t)) ≡ (b && P (argument ts j))
    go true f = ap P (sym e ∙ ap (argument ts) ((Decides-eqb i j).0 f))
    go false f = refl

is_for-leads : (k : Called) (f n i : ℕ) (ts : Trees) (t : Tree) → n ≡ count_trees ts → argument ts i ≡ Some t → is_for f n i t k ≡ (is_at i (place_of k) && leads k (node f ts))
is_for-leads (Whole g m) f n i ts t c e = is_for-whole f n i t g m
is_for-leads (Atom g m j b) f n i ts t c e =
    is_for-atom f n i t g m j b ∙ at_place (λ o. fits (Atom g m j b) o && is_key (f, n) (g, m)) ts i j t e
    ∙ ap (λ x. (i == j) && (fits (Atom g m j b) (argument ts j) && is_key (f, x) (g, m))) c
is_for-leads (Integer g m j b) f n i ts t c e =
    is_for-integer f n i t g m j b ∙ at_place (λ o. fits (Integer g m j b) o && is_key (f, n) (g, m)) ts i j t e
    ∙ ap (λ x. (i == j) && (fits (Integer g m j b) (argument ts j) && is_key (f, x) (g, m))) c

put_more : (a b l : Bool) (old : Program) (c : Clause) → (a && b) ≡ false → (if b && l then (if a && l then old ++ c ∷ [] else old) ++ c ∷ [] else (if a && l then old ++ c ∷ [] else old)) ≡ (if (a || b) && l then old ++ c ∷ [] else old)
put_more true true l old c e = absurd (false≢true (sym e))
put_more true false l old c e = refl
put_more false true true old c e = refl
put_more false true false old c e = refl
put_more false false l old c e = refl

-- a clause that was put in for one more argument
pub place_turn : (k : Called) (f n i : ℕ) (ts : Trees) (t : Tree) (old mid new : Program) (c : Clause) → n ≡ count_trees ts → argument ts i ≡ Some t → mid ≡ (if leads_before i k (node f ts) then old ++ c ∷ [] else old)
    → new ≡ (if is_for f n i t k then mid ++ c ∷ [] else mid) → new ≡ (if leads_before (i + 1) k (node f ts) then old ++ c ∷ [] else old)
place_turn k f n i ts t old mid new c e d m h =
    let l = leads k (node f ts) in
    let a = is_before i (place_of k) in
    let b = is_at i (place_of k) in
    h ∙ ap₂ (λ x (p : Program). if x then p ++ c ∷ [] else p) (is_for-leads k f n i ts t e d) m ∙ put_more a b l old c (before_once i (place_of k))
    ∙ ap (λ x. if x && l then old ++ c ∷ [] else old) (sym (before_more i (place_of k)))

before_none : (o : Option ℕ) → is_before 0 o ≡ false
before_none None = refl
before_none (Some j) = go (nat_lt j 0) refl
  where
    go : (b : Bool) → nat_lt j 0 ≡ b → b ≡ false
    go true e = let l = (Decides-ltb j 0).0 e in absurd (omega arith)
    go false e = refl

pub place_first : (k : Called) (t : Tree) (old : Program) (c : Clause) → old ≡ (if leads_before 0 k t then old ++ c ∷ [] else old)
place_first k t old c = ap (λ b. if b && leads k t then old ++ c ∷ [] else old) (sym (before_none (place_of k)))

-- a constant at one of the first places is before a place that is behind those
near_lt : (j i n : ℕ) → nat_lt j PLACES ≡ true → i ≤ n → (n ≤ i) ⊎ (PLACES ≤ i) → nat_lt j i ≡ nat_lt j n
near_lt j i n near l (inl e) = let s : i ≡ n = omega arith in ap (nat_lt j) s
near_lt j i n near l (inr e) = let p = (Decides-ltb j PLACES).0 near in (Decides-ltb j i).1 (omega arith) ∙ sym ((Decides-ltb j n).1 (omega arith))

near_before : (k : Called) (i n : ℕ) → is_near k ≡ true → i ≤ n → (n ≤ i) ⊎ (PLACES ≤ i) → is_before i (place_of k) ≡ is_before n (place_of k)
near_before (Whole f m) i n near l h = refl
near_before (Atom f m j a) i n near l h = near_lt j i n near l h
near_before (Integer f m j z) i n near l h = near_lt j i n near l h

-- what the lesser of two numbers doesn't pass, one of them doesn't
pub min_met : (n i : ℕ) → min n PLACES ≤ i → (n ≤ i) ⊎ (PLACES ≤ i)
min_met n i h = go (nat_lt n PLACES) refl
  where
    go : (b : Bool) → nat_lt n PLACES ≡ b → (n ≤ i) ⊎ (PLACES ≤ i)
    go true e = let l = (Decides-ltb n PLACES).0 e in inl (omega (arith, h))
    go false e =
        let l : (n < PLACES → ⊥) = λ m. false≢true (sym e ∙ (Decides-ltb n PLACES).1 m) in
        inr (omega (arith, h))

pub near_end : (k : Called) (i n : ℕ) (t : Tree) (old new : Program) (c : Clause) → is_near k ≡ true → i ≤ n → (n ≤ i) ⊎ (PLACES ≤ i) → new ≡ (if leads_before i k t then old ++ c ∷ [] else old)
    → new ≡ (if leads_before n k t then old ++ c ∷ [] else old)
near_end k i n t old new c near l e h = h ∙ ap (λ b. if b && leads k t then old ++ c ∷ [] else old) (near_before k i n near l e)

-- all places are before the end
fits-before : (k : Called) (j n : ℕ) (ts : Trees) (l : Bool) (old : Program) (c : Clause) → n ≡ count_trees ts → ((x : Bool) → fits k None ≡ x → x ≡ false)
    → (if nat_lt j n && (fits k (argument ts j) && l) then old ++ c ∷ [] else old) ≡ (if fits k (argument ts j) && l then old ++ c ∷ [] else old)
fits-before k j n ts l old c e v = go (argument ts j) refl
  where
    go : (o : Option Tree) → argument ts j ≡ o → (if nat_lt j n && (fits k o && l) then old ++ c ∷ [] else old) ≡ (if fits k o && l then old ++ c ∷ [] else old)
    go (Some t) d = let w = argument-within ts j t d in ap (λ b. if b && (fits k (Some t) && l) then old ++ c ∷ [] else old) ((Decides-ltb j n).1 (omega arith))
    go None d = ap (λ b. if nat_lt j n && (b && l) then old ++ c ∷ [] else old) (v (fits k None) refl) ∙ none (nat_lt j n) ∙ ap (λ b. if b && l then old ++ c ∷ [] else old) (sym (v (fits k None) refl))
      where
        none : (b : Bool) → (if b && false then old ++ c ∷ [] else old) ≡ old
        none true = refl
        none false = refl

-- a clause that was put in for its predicate, and then for its arguments
pub head_turn : (k : Called) (a n : ℕ) (ts : Trees) (old mid new : Program) (c : Clause) → n ≡ count_trees ts → mid ≡ (if is_called (Whole a n) k then old ++ c ∷ [] else old)
    → new ≡ (if leads_before n k (node a ts) then mid ++ c ∷ [] else mid) → new ≡ (if leads k (node a ts) then old ++ c ∷ [] else old)
head_turn (Whole f m) a n ts old mid new c e d h = h ∙ d ∙ ap (λ i. if is_called (Whole a i) (Whole f m) then old ++ c ∷ [] else old) e
head_turn (Atom f m i b) a n ts old mid new c e d h =
    h ∙ ap (λ (p : Program). if leads_before n (Atom f m i b) (node a ts) then p ++ c ∷ [] else p) d
    ∙ fits-before (Atom f m i b) i n ts (is_key (a, count_trees ts) (f, m)) old c e (λ x f. sym f)
head_turn (Integer f m i b) a n ts old mid new c e d h =
    h ∙ ap (λ (p : Program). if leads_before n (Integer f m i b) (node a ts) then p ++ c ∷ [] else p) d
    ∙ fits-before (Integer f m i b) i n ts (is_key (a, count_trees ts) (f, m)) old c e (λ x f. sym f)

-- ---- variables among arguments

open_more : (k : Place) (f n i : ℕ) (ts : Trees) (t : Tree) → n ≡ count_trees ts → argument ts i ≡ Some t
    → is_open_before (i + 1) k (node f ts) ≡ (is_open_before i k (node f ts) || (is_variable (Some t) && is_place ((f, n), i) k))
open_more k f n i ts t c e =
    ap (λ x. x && heads_open k (node f ts)) (before_more i (Some k.1))
    ∙ apart (nat_lt k.1 i) (i == k.1) (heads_open k (node f ts))
    ∙ ap (λ x. is_open_before i k (node f ts) || x)
    (sym (at_place (λ o. is_variable o && is_key (f, count_trees ts) k.0) ts i k.1 t e) ∙ ap (λ x. (i == k.1) && (is_variable (Some t) && is_key (f, x) k.0)) (sym c)
    ∙ turned (i == k.1) (is_variable (Some t)) (is_key (f, n) k.0))
  where
    apart : (a b l : Bool) → ((a || b) && l) ≡ ((a && l) || (b && l))
    apart true true true = refl
    apart true true false = refl
    apart true false true = refl
    apart true false false = refl
    apart false b l = refl

    turned : (a b l : Bool) → (a && (b && l)) ≡ (b && (l && a))
    turned true true true = refl
    turned true true false = refl
    turned true false l = refl
    turned false true true = refl
    turned false true false = refl
    turned false false l = refl

pub open_place_turn : (k : Place) (f n i : ℕ) (ts : Trees) (t : Tree) (old mid new : Bool) → n ≡ count_trees ts → argument ts i ≡ Some t → mid ≡ (old || is_open_before i k (node f ts))
    → new ≡ (mid || (is_variable (Some t) && is_place ((f, n), i) k)) → new ≡ (old || is_open_before (i + 1) k (node f ts))
open_place_turn k f n i ts t old mid new c e m h =
    h ∙ ap (λ x. x || (is_variable (Some t) && is_place ((f, n), i) k)) m
    ∙ grouped old (is_open_before i k (node f ts)) (is_variable (Some t) && is_place ((f, n), i) k) ∙ ap (λ x. old || x) (sym (open_more k f n i ts t c e))
  where
    grouped : (a b l : Bool) → ((a || b) || l) ≡ (a || (b || l))
    grouped true b l = refl
    grouped false b l = refl

pub open_place_first : (k : Place) (t : Tree) (old : Bool) → old ≡ (old || is_open_before 0 k t)
open_place_first k t old = sym (ap (λ b. old || (b && heads_open k t)) (before_none (Some k.1)) ∙ last old)
  where
    last : (b : Bool) → (b || false) ≡ b
    last true = refl
    last false = refl

pub open_before_all : (k : Place) (n f : ℕ) (ts : Trees) → n ≡ count_trees ts → is_open_before n k (node f ts) ≡ heads_open k (node f ts)
open_before_all k n f ts e = go (argument ts k.1) refl
  where
    go : (o : Option Tree) → argument ts k.1 ≡ o → (nat_lt k.1 n && (is_variable o && is_key (f, count_trees ts) k.0)) ≡ (is_variable o && is_key (f, count_trees ts) k.0)
    go (Some t) d = let w = argument-within ts k.1 t d in ap (λ b. b && (is_variable (Some t) && is_key (f, count_trees ts) k.0)) ((Decides-ltb k.1 n).1 (omega arith))
    go None d = sym (never (nat_lt k.1 n))

-- ---- what is put in

pub place_kept : (b : Bool) (place : ℕ) (old new : Option ℕ) → (b ≡ true → old ≡ None) → new ≡ cond b (Some place) old → (i : ℕ) → old ≡ Some i → new ≡ Some i
place_kept true place old new s e i h = let none = s refl in cc
place_kept false place old new s e i h = e ∙ h

any_same : (f g : Called → Bool) → ((x : Called) → f x ≡ g x) → (ks : List Called) → list_any f ks ≡ list_any g ks
any_same f g h [] = refl
any_same f g h (k ∷ ks) = ap₂ (λ a b. a || b) (h k) (any_same f g h ks)

pub has_new : (b : Bool) (ks new : List Called) (v : Called) → list_any (eq-value.it v) ks ≡ b → new ≡ (if b then ks else ks ++ v ∷ []) → has_call new v ≡ true
has_new true ks new v h e = ap (λ l. has_call l v) e ∙ sym (any_same (eq-value.it v) (is_called v) (called_eq v) ks) ∙ h
has_new false ks new v h e = ap (λ l. has_call l v) e ∙ list_any-append (is_called v) ks (v ∷ []) ∙ ap (λ b. has_call ks v || (b || false)) (own_call v) ∙ last (has_call ks v)
  where
    last : (b : Bool) → (b || true) ≡ true
    last true = refl
    last false = refl

pub has_old : (b : Bool) (ks new : List Called) (v k : Called) → new ≡ (if b then ks else ks ++ v ∷ []) → has_call new k ≡ true → (has_call ks k ≡ true) ⊎ (k ≡ v)
has_old true ks new v k e h = inl (ap (λ l. has_call l k) (sym e) ∙ h)
has_old false ks new v k e h = go (has_call ks k) refl (is_called k v) refl (sym (ap (λ l. has_call l k) e ∙ list_any-append (is_called k) ks (v ∷ [])) ∙ h)
  where
    go : (a : Bool) → has_call ks k ≡ a → (b : Bool) → is_called k v ≡ b → (a || (b || false)) ≡ true → (has_call ks k ≡ true) ⊎ (k ≡ v)
    go true f b g i = inl f
    go false f true g i = inr (same_call k v g)
    go false f false g i = absurd (false≢true i)

-- ---- clauses in an index

-- what is held, or else something empty, lists what was there
pub had_found : (was held : Option Own) (o : Own) → held ≡ was → o ≡ unwrap_or held own.None → found was ≡ clauses_of o
had_found was None o e made = ap found (sym e) ∙ ap clauses_of (sym made)
had_found was (Some v) o e made = ap found (sym e) ∙ ap clauses_of (sym made)

pub put_turn : (b : Bool) (before after same : Option Own) (o new : Own) (c : Clause)
    → after ≡ cond b (Some new) before → clauses_of new ≡ clauses_of o ++ c ∷ [] → (b ≡ true → same ≡ before) → found same ≡ clauses_of o
    → found after ≡ (if b then found before ++ c ∷ [] else found before)
put_turn true before after same o new c e n s h = ap found e ∙ n ∙ ap (λ z. z ++ c ∷ []) (sym h ∙ ap found (s refl))
put_turn false before after same o new c e n s h = ap found e

pub lookup_same : {X : Type 0} (f g : Called → Bool) → ((x : Called) → f x ≡ g x) → (es : List (Called × X)) → lookup f es ≡ lookup g es
lookup_same f g h [] = refl
lookup_same f g h (e ∷ es) = ap₂ (λ b o. cond b (Some e.1) o) (h e.0) (lookup_same f g h es)
