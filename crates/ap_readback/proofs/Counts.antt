-- The variables of a clause's line are those of the clause.
use Rattle.std.proofs.Common.{◌≡◌, ℕ, zero, suc, ◌&&◌, ◌||◌, Bool, true, false, nat_eq, if◌then◌else◌, List, [], ◌∷◌, ◌++◌, codes, length, length-append, refl, ap, sym, subst, ◌∙◌, arith}
use Rattle.std.specs.Prelude.{nat_le}
use Rattle.std.specs.List.{AllByRecursion, list_all, list_any, IsDistinct}
use Rattle.std.proofs.lemmas.Bool.{false≢true, and_parts}
use Rattle.std.proofs.lemmas.Bool.Decides.{nat_tests}
use Rattle.std.proofs.lemmas.Cmp.{nat_eq_equiv}
use Rattle.std.proofs.lemmas.Map.Keys.{IsDistinct-push}
use Rattle.std.proofs.lemmas.Map.Made.{length-from_same_keys}
use Rattle.ap_lexer.specs.Lexeme.{Text}
use Rattle.ap_term.specs.declared.clauses.Check.{Check}
use Rattle.ap_term.specs.declared.clauses.Check.TheVariants.{Ground, Indep}
use Rattle.ap_term.specs.Tree.{Tree, Trees, var, int, atom, node, none, more, count_trees}
use Rattle.ap_term.specs.Vars.{has, add_vars, add_all_vars}
use Rattle.ap_term.specs.Goals.{Part, call, group, Clause}
use Rattle.ap_term.specs.WellFormed.{in_range, numbered, numbered_all, numbered_check, callable, all_callable, well_formed_part, IsClause}
use Rattle.ap_writer.proofs.Numbering.{any-has}
use Rattle.ap_cge.specs.Printed.{Piece, word, term as a_term, is_enclosed, goal_pieces, check_pieces, behind, parted, condition_pieces, list_of, part_pieces, body_pieces, add_pieces_vars}
use Rattle.ap_readback.specs.Readback.{line_vars}
use Rattle.ap_readback.proofs.Pieces.{line-vars}

-- ---- the numbers from 1 on

up_to : ℕ → List ℕ
up_to zero = []
up_to (suc n) = up_to n ++ suc n ∷ []

any-push : (test : ℕ → Bool) (xs : List ℕ) (y : ℕ) → list_any test (xs ++ y ∷ []) ≡ (list_any test xs || test y)
any-push test [] y = go (test y)
  where
    go : (b : Bool) → (b || false) ≡ b
    go true = refl
    go false = refl
any-push test (x ∷ xs) y = ap (λ b. test x || b) (any-push test xs y) ∙ go (test x)
  where
    go : (b : Bool) → (b || (list_any test xs || test y)) ≡ ((b || list_any test xs) || test y)
    go true = refl
    go false = refl

range-more : (n q : ℕ) → (in_range n q || nat_eq q (suc n)) ≡ in_range (suc n) q
range-more n q = grind (arith, nat_tests)

range-none : (q : ℕ) → false ≡ in_range 0 q
range-none q = grind (arith, nat_tests)

up-to-has : (n q : ℕ) → list_any (nat_eq q) (up_to n) ≡ in_range n q
unfolding up_to
up-to-has zero q = range-none q
up-to-has (suc n) q = any-push (nat_eq q) (up_to n) (suc n) ∙ ap (λ b. b || nat_eq q (suc n)) (up-to-has n q) ∙ range-more n q

range-past : (n : ℕ) → in_range n (suc n) ≡ false
range-past n = grind (arith, nat_tests)

up-to-distinct : (n : ℕ) → IsDistinct nat_eq (up_to n)
unfolding up_to IsDistinct
up-to-distinct zero = tt
up-to-distinct (suc n) = IsDistinct-push nat_eq_equiv (up_to n) (suc n) (up-to-distinct n) (up-to-has n (suc n) ∙ range-past n)

up-to-length : (n : ℕ) → length (up_to n) ≡ n
unfolding up_to
up-to-length zero = refl
up-to-length (suc n) = omega (arith, length-append (up_to n) (suc n ∷ []), up-to-length n)

-- ---- each variable stands once

mutual
  add-distinct : (t : Tree) (xs : List ℕ) → IsDistinct nat_eq xs → IsDistinct nat_eq (add_vars t xs)
  add-distinct (var x) xs h = go (has xs x) refl
    where
      go : (b : Bool) → has xs x ≡ b → IsDistinct nat_eq (if b then xs else xs ++ x ∷ [])
      go true e = h
      go false e = IsDistinct-push nat_eq_equiv xs x h (any-has xs x ∙ e)
  add-distinct (int z) xs h = h
  add-distinct (atom a) xs h = h
  add-distinct (node a ts) xs h = add_all-distinct ts xs h

  add_all-distinct : (ts : Trees) (xs : List ℕ) → IsDistinct nat_eq xs → IsDistinct nat_eq (add_all_vars ts xs)
  add_all-distinct none xs h = h
  add_all-distinct (more t ts) xs h = add_all-distinct ts (add_vars t xs) (add-distinct t xs h)

pieces-distinct : (ps : List Piece) (xs : List ℕ) → IsDistinct nat_eq xs → IsDistinct nat_eq (add_pieces_vars ps xs)
pieces-distinct [] xs h = h
pieces-distinct (word bytes ∷ ps) xs h = pieces-distinct ps xs h
pieces-distinct (a_term t ∷ ps) xs h = pieces-distinct ps (add_vars t xs) (add-distinct t xs h)

-- ---- and is one of the clause's

module _ (n : ℕ) where
  abbrev AreIn : List ℕ → Type 0
  AreIn xs = AllByRecursion (λ x. in_range n x ≡ true) xs

  push-in : (xs : List ℕ) (y : ℕ) → AreIn xs → in_range n y ≡ true → AreIn (xs ++ y ∷ [])
  push-in [] y h k = (k, tt)
  push-in (x ∷ xs) y h k = (h.0, push-in xs y h.1 k)

  mutual
    add-in : (t : Tree) (xs : List ℕ) → numbered n t ≡ true → AreIn xs → AreIn (add_vars t xs)
    add-in (var x) xs k h = go (has xs x)
      where
        go : (b : Bool) → AreIn (if b then xs else xs ++ x ∷ [])
        go true = h
        go false = push-in xs x h k
    add-in (int z) xs k h = h
    add-in (atom a) xs k h = h
    add-in (node a ts) xs k h = add_all-in ts xs k h

    add_all-in : (ts : Trees) (xs : List ℕ) → numbered_all n ts ≡ true → AreIn xs → AreIn (add_all_vars ts xs)
    add_all-in none xs k h = h
    add_all-in (more t ts) xs k h = let both = and_parts (numbered n t) (numbered_all n ts) k in add_all-in ts (add_vars t xs) both.1 (add-in t xs both.0 h)

  abbrev PieceIn : Piece → Type 0
  PieceIn (word bytes) = Unit {0}
  PieceIn (a_term t) = numbered n t ≡ true

  abbrev PiecesIn : List Piece → Type 0
  PiecesIn ps = AllByRecursion PieceIn ps

  pieces-in : (ps : List Piece) (xs : List ℕ) → PiecesIn ps → AreIn xs → AreIn (add_pieces_vars ps xs)
  pieces-in [] xs h k = k
  pieces-in (word bytes ∷ ps) xs h k = pieces-in ps xs h.1 k
  pieces-in (a_term t ∷ ps) xs h k = pieces-in ps (add_vars t xs) h.1 (add-in t xs h.0 k)

  append-in : (ps qs : List Piece) → PiecesIn ps → PiecesIn qs → PiecesIn (ps ++ qs)
  append-in [] qs h k = k
  append-in (p ∷ ps) qs h k = (h.0, append-in ps qs h.1 k)

  behind-in : {A : Type 0} (sign : List ℕ) (f : A → List Piece) (xs : List A) → AllByRecursion (λ x. PiecesIn (f x)) xs → PiecesIn (behind sign f xs)
  behind-in sign f [] h = tt
  behind-in sign f (x ∷ xs) h = (tt, append-in (f x) (behind sign f xs) h.0 (behind-in sign f xs h.1))

  parted-in : {A : Type 0} (sign : List ℕ) (f : A → List Piece) (xs : List A) → AllByRecursion (λ x. PiecesIn (f x)) xs → PiecesIn (parted sign f xs)
  parted-in sign f [] h = tt
  parted-in sign f (x ∷ xs) h = append-in (f x) (behind sign f xs) h.0 (behind-in sign f xs h.1)

  checks-in : (cs : List Check) → list_all (numbered_check n) cs ≡ true → AllByRecursion (λ c. PiecesIn (check_pieces c)) cs
  checks-in [] h = tt
  checks-in (c ∷ cs) h = let both = and_parts (numbered_check n c) (list_all (numbered_check n) cs) h in (one c both.0, checks-in cs both.1)
    where
      one : (d : Check) → numbered_check n d ≡ true → PiecesIn (check_pieces d)
      one (Ground x) k = (tt, (k, (tt, tt)))
      one (Indep x y) k = let both = and_parts (in_range n x) (in_range n y) k in (tt, (both.0, (tt, (both.1, (tt, tt)))))

  condition-in : (cs : List Check) → list_all (numbered_check n) cs ≡ true → PiecesIn (condition_pieces cs)
  condition-in [] h = tt
  condition-in (c ∷ []) h = append-in (check_pieces c) (word (codes " => ") ∷ []) (checks-in (c ∷ []) h).0 (tt, tt)
  condition-in (c ∷ d ∷ cs) h = (tt, append-in (parted (codes ", ") check_pieces (c ∷ d ∷ cs)) (word (codes ") => ") ∷ []) (parted-in (codes ", ") check_pieces (c ∷ d ∷ cs) (checks-in (c ∷ d ∷ cs) h)) (tt, tt))

  module _ (names : List Text) where
    goal-in : (t : Tree) → numbered n t ≡ true → PiecesIn (goal_pieces names t)
    goal-in t h = go (is_enclosed names t)
      where
        go : (b : Bool) → PiecesIn (if b then word (codes "(") ∷ a_term t ∷ word (codes ")") ∷ [] else a_term t ∷ [])
        go true = (tt, (h, (tt, tt)))
        go false = (h, tt)

    goals-in : (ts : Trees) → numbered_all n ts ≡ true → AllByRecursion (λ t. PiecesIn (goal_pieces names t)) (list_of ts)
    goals-in none h = tt
    goals-in (more t ts) h = let both = and_parts (numbered n t) (numbered_all n ts) h in (goal-in t both.0, goals-in ts both.1)

    part-in : (p : Part) → well_formed_part n p ≡ true → PiecesIn (part_pieces names p)
    part-in (call t) h = goal-in t (and_parts (callable t) (numbered n t) h).1
    part-in (group cs ts) h =
        let first = and_parts (list_all (numbered_check n) cs) (nat_le 1 (count_trees ts) && (all_callable ts && numbered_all n ts)) h in
        let second = and_parts (nat_le 1 (count_trees ts)) (all_callable ts && numbered_all n ts) first.1 in
        append-in (condition_pieces cs) (parted (codes " & ") (goal_pieces names) (list_of ts)) (condition-in cs first.0)
        (parted-in (codes " & ") (goal_pieces names) (list_of ts) (goals-in ts (and_parts (all_callable ts) (numbered_all n ts) second.1).1))

    parts-in : (ps : List Part) → list_all (well_formed_part n) ps ≡ true → AllByRecursion (λ p. PiecesIn (part_pieces names p)) ps
    parts-in [] h = tt
    parts-in (p ∷ ps) h = let both = and_parts (well_formed_part n p) (list_all (well_formed_part n) ps) h in (part-in p both.0, parts-in ps both.1)

    body-in : (ps : List Part) → list_all (well_formed_part n) ps ≡ true → PiecesIn (body_pieces names ps)
    body-in [] h = tt
    body-in (p ∷ ps) h = (tt, parted-in (codes ", ") (part_pieces names) (p ∷ ps) (parts-in (p ∷ ps) h))

  has-in : (xs : List ℕ) (x : ℕ) → AreIn xs → has xs x ≡ true → in_range n x ≡ true
  has-in [] x h o = absurd (false≢true o)
  has-in (y ∷ ys) x h o = go (nat_eq y x) refl o (has-in ys x h.1)
    where
      same : nat_eq y x ≡ true → y ≡ x
      same e = grind (arith)

      go : (b : Bool) → nat_eq y x ≡ b → (b || has ys x) ≡ true → (has ys x ≡ true → in_range n x ≡ true) → in_range n x ≡ true
      go true e o ih = subst (λ z. in_range n z ≡ true) (same e) h.0
      go false e o ih = ih o

-- as many as the clause says
pub vars-counted : (names : List Text) (c : Clause) → IsClause c → ((x : ℕ) → in_range c.vars x ≡ true → has (line_vars names c) x ≡ true) → length (line_vars names c) ≡ c.vars
unfolding IsDistinct
vars-counted names c h all =
    let found : List ℕ = line_vars names c in
    let pieces : List Piece = goal_pieces names c.head ++ body_pieces names c.body in
    let inside : PiecesIn c.vars pieces = append-in c.vars (goal_pieces names c.head) (body_pieces names c.body) (goal-in c.vars names c.head (and_parts (callable c.head) (numbered c.vars c.head) h.head).1) (body-in c.vars names c.body h.body) in
    let are : AreIn c.vars found = subst (AreIn c.vars) (sym (line-vars names c)) (pieces-in c.vars pieces [] inside tt) in
    let distinct : IsDistinct nat_eq found = subst (IsDistinct nat_eq) (sym (line-vars names c)) (pieces-distinct pieces [] tt) in
    length-from_same_keys nat_eq_equiv found (up_to c.vars) distinct (up-to-distinct c.vars) (λ q. any-has found q ∙ same found q are all ∙ sym (up-to-has c.vars q)) ∙ up-to-length c.vars
  where
    same : (found : List ℕ) (q : ℕ) → AreIn c.vars found → ((x : ℕ) → in_range c.vars x ≡ true → has found x ≡ true) → has found q ≡ in_range c.vars q
    same found q are full = go (has found q) refl (in_range c.vars q) refl
      where
        go : (a : Bool) → has found q ≡ a → (b : Bool) → in_range c.vars q ≡ b → has found q ≡ in_range c.vars q
        go true e true f = e ∙ sym f
        go false e false f = e ∙ sym f
        go true e false f = absurd (false≢true (sym f ∙ has-in c.vars found q are e))
        go false e true f = absurd (false≢true (sym e ∙ full q f))
