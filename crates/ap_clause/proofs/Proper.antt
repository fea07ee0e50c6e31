-- Terms whose variables are numbered up to some number, and each of whose compounds has an argument.
use Rattle.std.proofs.Common.{◌≡◌, ℕ, zero, suc, ◌+◌, ◌≤◌, ◌<◌, Bool, true, false, cond, List, [], ◌∷◌, length, Option, Some, None, slice_get, refl, arith, length-append}
use Rattle.std.specs.Prelude.{bytes_eq, codes}
use Rattle.std.proofs.lemmas.Bool.{and_from}
use Rattle.ap_lexer.specs.declared.kind.TokenKind.{TokenKind}
use Rattle.ap_lexer.specs.declared.kind.TokenKind.TheVariants as token
use Rattle.ap_lexer.specs.Lexeme.{Text}
use Rattle.ap_lexer.specs.Token.{Placed}
use Rattle.ap_term.specs.WellFormed.{in_range, numbered, numbered_all}
use Rattle.ap_term.proofs.WellFormed.{in_range-true}
use Rattle.ap_reader.specs.Grammar.{Tree, Single, Positive, Negative, Prefix, Infix, Group, Compound, Empty, Listed, Tailed, Items, Begin, Then}
use Rattle.ap_reader.specs.Written.{Written, Variable, Integer, Atom, Node, Paren, Writtens, Nil, Cons, place_in, known, seen_after, number_after, seen_by, leaf_by, leaves, variables, leaf_at, name_at, cell, meaning, arguments, listed}
use Rattle.ap_reader.specs.Build.{term_in, terms_in}

abbrev mutual
  pub IsProper : ℕ → Written → Type 0
  IsProper n (Variable k) = (1 ≤ k) × (k ≤ n)
  IsProper n (Integer z) = Unit {0}
  IsProper n (Atom f) = Unit {0}
  IsProper n (Node f Nil) = ⊥
  IsProper n (Node f (Cons x xs)) = IsProper n x × AreProper n xs
  IsProper n (Paren x) = IsProper n x

  pub AreProper : ℕ → Writtens → Type 0
  AreProper n Nil = Unit {0}
  AreProper n (Cons x xs) = IsProper n x × AreProper n xs

-- ---- leaves

place_bounds : (at : ℕ) (xs : List Text) (name : Text) (m : ℕ) → place_in at xs name ≡ Some m → (at ≤ m) × (m < at + length xs)
place_bounds at [] name m e = absurd (none e)
  where
    none : None ≡ Some m → ⊥
    none k = cc
place_bounds at (x ∷ xs) name m e = of (bytes_eq x name) (place_bounds (at + 1) xs name m) e
  where
    some : Some at ≡ Some m → at ≡ m
    some k = cc

    of : (b : Bool) → (place_in (at + 1) xs name ≡ Some m → (at + 1 ≤ m) × (m < (at + 1) + length xs)) → cond b (Some at) (place_in (at + 1) xs name) ≡ Some m → (at ≤ m) × (m < at + length (x ∷ xs))
    of true f k = let same = some k in (omega arith, omega arith)
    of false f k = let rest = f k in (omega arith, omega arith)

known_bounds : (seen : List Text) (name : Text) (m : ℕ) → known seen name ≡ Some m → (1 ≤ m) × (m ≤ length seen)
known_bounds seen name m e = of (bytes_eq name (codes "_")) e
  where
    none : None ≡ Some m → ⊥
    none k = cc

    of : (b : Bool) → cond b None (place_in 1 seen name) ≡ Some m → (1 ≤ m) × (m ≤ length seen)
    of true k = absurd (none k)
    of false k = let found = place_bounds 1 seen name m k in (omega arith, omega arith)

number_bounds : (seen : List Text) (name : Text) (n : ℕ) (o : Option ℕ) → known seen name ≡ o → length (seen_after seen name o) ≤ n → (1 ≤ number_after seen o) × (number_after seen o ≤ n)
number_bounds seen name n None e h = (omega arith, omega (arith, length-append seen (name ∷ [])))
number_bounds seen name n (Some m) e h = let found = known_bounds seen name m e in (found.0, omega arith)

leaf_proper : (k : TokenKind) (seen : List Text) (text : Text) (n : ℕ) → length (seen_by k seen text) ≤ n → IsProper n (leaf_by k seen text)
leaf_proper token.Variable seen text n h = number_bounds seen text n (known seen text) refl h
leaf_proper token.Name seen text n h = tt
leaf_proper token.Symbol seen text n h = tt
leaf_proper token.Quoted seen text n h = tt
leaf_proper token.Cut seen text n h = tt
leaf_proper token.Semicolon seen text n h = tt
leaf_proper token.Comma seen text n h = tt
leaf_proper _ seen text n h = tt

seen_grows : (k : TokenKind) (seen : List Text) (text : Text) → length seen ≤ length (seen_by k seen text)
seen_grows token.Variable seen text = of (known seen text)
  where
    of : (o : Option ℕ) → length seen ≤ length (seen_after seen text o)
    of None = omega (arith, length-append seen (text ∷ []))
    of (Some m) = omega arith
seen_grows _ seen text = omega arith

variables_grow : (seen : List Text) (ts : List Placed) → length seen ≤ length (variables seen ts)
variables_grow seen [] = omega arith
variables_grow seen (t ∷ ts) = omega (arith, seen_grows t.kind seen t.text, variables_grow (seen_by t.kind seen t.text) ts)

no_leaf : (at n : ℕ) → IsProper n (leaf_at (slice_get [] at))
no_leaf zero n = tt
no_leaf (suc at) n = tt

leaves_proper : (seen : List Text) (ts : List Placed) (at : ℕ) → IsProper (length (variables seen ts)) (leaf_at (slice_get (leaves seen ts) at))
leaves_proper seen [] at = no_leaf at (length seen)
leaves_proper seen (t ∷ ts) zero = leaf_proper t.kind seen t.text (length (variables (seen_by t.kind seen t.text) ts)) (variables_grow (seen_by t.kind seen t.text) ts)
leaves_proper seen (t ∷ ts) (suc at) = leaves_proper (seen_by t.kind seen t.text) ts at

-- ---- terms

module _ (n : ℕ) (xs : List Written) (leaf : (at : ℕ) → IsProper n (leaf_at (slice_get xs at))) where
  mutual
    tree_proper : (t : Tree) → IsProper n (meaning xs t)
    tree_proper (Single at) = leaf at
    tree_proper (Positive m) = tt
    tree_proper (Negative sign i m) = tt
    tree_proper (Prefix o t) = (tree_proper t, tt)
    tree_proper (Infix l o r) = (tree_proper l, (tree_proper r, tt))
    tree_proper (Group t) = tree_proper t
    tree_proper (Compound at i items t) = compound_proper items (name_at xs at) (meaning xs t) Nil (tree_proper t) tt
    tree_proper Empty = tt
    tree_proper (Listed items t) = listed_proper items (cell (meaning xs t) (Atom (codes "[]"))) (tree_proper t, (tt, tt))
    tree_proper (Tailed items t u) = listed_proper items (cell (meaning xs t) (meaning xs u)) (tree_proper t, (tree_proper u, tt))

    compound_proper : (items : Items) (f : Text) (x : Written) (rest : Writtens) → IsProper n x → AreProper n rest → IsProper n (Node f (arguments xs items (Cons x rest)))
    compound_proper Begin f x rest h k = (h, k)
    compound_proper (Then items t at) f x rest h k = compound_proper items f (meaning xs t) (Cons x rest) (tree_proper t) (h, k)

    listed_proper : (items : Items) (rest : Written) → IsProper n rest → IsProper n (listed xs items rest)
    listed_proper Begin rest h = h
    listed_proper (Then items t at) rest h = listed_proper items (cell (meaning xs t) rest) (tree_proper t, (h, tt))

-- what tokens spell has the variables that they name
pub spelled_proper : (front : List Placed) (t : Tree) → IsProper (length (variables [] front)) (meaning (leaves [] front) t)
spelled_proper front t = tree_proper (length (variables [] front)) (leaves [] front) (leaves_proper [] front) t

-- ---- numbers

pub variable_in_range : (n k : ℕ) → (1 ≤ k) × (k ≤ n) → in_range n k ≡ true
variable_in_range n k h = in_range-true n k h.0 h.1

mutual
  pub numbered-proper : (ns : List Text) (n : ℕ) (x : Written) → IsProper n x → numbered n (term_in ns x) ≡ true
  numbered-proper ns n (Variable k) h = variable_in_range n k h
  numbered-proper ns n (Integer z) h = refl
  numbered-proper ns n (Atom f) h = refl
  numbered-proper ns n (Node f Nil) h = refl
  numbered-proper ns n (Node f (Cons x xs)) h = and_from (numbered n (term_in ns x)) (numbered_all n (terms_in ns xs)) (numbered-proper ns n x h.0) (numbered_all-proper ns n xs h.1)
  numbered-proper ns n (Paren x) h = numbered-proper ns n x h

  pub numbered_all-proper : (ns : List Text) (n : ℕ) (xs : Writtens) → AreProper n xs → numbered_all n (terms_in ns xs) ≡ true
  numbered_all-proper ns n Nil h = refl
  numbered_all-proper ns n (Cons x xs) h = and_from (numbered n (term_in ns x)) (numbered_all n (terms_in ns xs)) (numbered-proper ns n x h.0) (numbered_all-proper ns n xs h.1)
