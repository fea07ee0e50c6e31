-- The numbers that printed variables are read as.
use Rattle.std.proofs.Common.{◌≡◌, ℕ, ◌+◌, ◌<◌, ◌^◌, ◌||◌, Bool, true, false, cond, if◌then◌else◌, List, [], ◌∷◌, ◌++◌, map, length, codes, Some, None, refl, sym, ap, ◌∙◌, arith}
use Rattle.std.specs.Prelude.{bytes_eq, nat_eq}
use Rattle.std.specs.Fmt.{decimal}
use Rattle.std.specs.List.{AllByRecursion}
use Rattle.std.proofs.lemmas.Bool.{false≢true, eqb-true, eq-eqb}
use Rattle.std.proofs.lemmas.Slice.Eq.{bytes_eq-Decides}
use Rattle.ap_lexer.specs.Lexeme.{Text, number}
use Rattle.ap_lexer.specs.declared.kind.TokenKind.TheVariants as token
use Rattle.ap_term.specs.Tree.{Tree, Trees, var, int, atom, node, none, more}
use Rattle.ap_term.specs.Vars.{has, add_vars, add_all_vars}
use Rattle.ap_term.specs.UpToNames.{place}
use Rattle.ap_term.specs.Blocks.{IsPrefix}
use Rattle.ap_term.proofs.Found.{has-added}
use Rattle.ap_writer.specs.Writable.{IsWritable, AreWritable}
use Rattle.ap_writer.proofs.Numbering.{place-prefix}
use Rattle.ap_reader.specs.Written.{Variable, place_in, known, seen_after, number_after, seen_by, leaf_by}
use Rattle.ap_cge.proofs.Tokens.{numeral}
use Rattle.ap_readback.specs.Printable.{variable_name}

abbrev pub AreSmall : List ℕ → Type 0
AreSmall found = AllByRecursion (λ x. x < 2 ^ 64) found

abbrev pub names_of : List ℕ → List Text
names_of found = map variable_name found

some_digits : (ds : List ℕ) → 0 < length ds → bytes_eq (95 ∷ ds) (codes "_") ≡ false
some_digits [] h = absurd (omega arith)
some_digits (d ∷ ds) h = refl

no_underscore : (x : ℕ) → x < 2 ^ 64 → bytes_eq (variable_name x) (codes "_") ≡ false
no_underscore x h = some_digits (decimal x) (numeral x h).some

same_digits : (x y : ℕ) → x < 2 ^ 64 → y < 2 ^ 64 → variable_name x ≡ variable_name y → x ≡ y
same_digits x y h k e = sym (numeral x h).value ∙ ap number (tail (decimal x) (decimal y) e) ∙ (numeral y k).value
  where
    tail : (a b : List ℕ) → 95 ∷ a ≡ 95 ∷ b → a ≡ b
    tail a b e = cc

-- names are the same where numbers are
same_name : (x y : ℕ) → x < 2 ^ 64 → y < 2 ^ 64 → bytes_eq (variable_name x) (variable_name y) ≡ nat_eq x y
same_name x y h k = go (bytes_eq (variable_name x) (variable_name y)) refl (nat_eq x y) refl
  where
    go : (a : Bool) → bytes_eq (variable_name x) (variable_name y) ≡ a → (b : Bool) → nat_eq x y ≡ b → bytes_eq (variable_name x) (variable_name y) ≡ nat_eq x y
    go true p true q = p ∙ sym q
    go false p false q = p ∙ sym q
    go true p false q = absurd (false≢true (sym q ∙ eq-eqb x y (same_digits x y h k ((bytes_eq-Decides (variable_name x) (variable_name y)).0 p))))
    go false p true q = absurd (false≢true (sym p ∙ (bytes_eq-Decides (variable_name x) (variable_name y)).1 (ap variable_name (eqb-true x y q))))

-- the place of a name is that of its number
place-is : (at n : ℕ) (found : List ℕ) (x : ℕ) → at ≡ n + 1 → AreSmall found → x < 2 ^ 64 → place_in at (names_of found) (variable_name x) ≡ cond (has found x) (Some (n + place found x)) None
place-is at n [] x e h k = refl
place-is at n (y ∷ ys) x e h k = ap (λ b. cond b (Some at) (place_in (at + 1) (names_of ys) (variable_name x))) (same_name y x h.0 k) ∙ go (nat_eq y x) (place-is (at + 1) (n + 1) ys x (omega (arith, e)) h.1 k)
  where
    go : (b : Bool) → place_in (at + 1) (names_of ys) (variable_name x) ≡ cond (has ys x) (Some ((n + 1) + place ys x)) None
        → cond b (Some at) (place_in (at + 1) (names_of ys) (variable_name x)) ≡ cond (b || has ys x) (Some (n + cond b 1 (place ys x + 1))) None
    go true ih = ap Some e
    go false ih = let moved : (n + 1) + place ys x ≡ n + (place ys x + 1) = omega arith in ih ∙ ap (λ m. cond (has ys x) (Some m) None) moved

known-is : (found : List ℕ) (x : ℕ) → AreSmall found → x < 2 ^ 64 → known (names_of found) (variable_name x) ≡ cond (has found x) (Some (place found x)) None
known-is found x h k =
    ap (λ b. cond b None (place_in 1 (names_of found) (variable_name x))) (no_underscore x k)
    ∙ place-is 1 0 found x (omega arith) h k
    ∙ let e : 0 + place found x ≡ place found x = omega arith in ap (λ m. cond (has found x) (Some m) None) e

map-push : (found : List ℕ) (x : ℕ) → map variable_name (found ++ x ∷ []) ≡ map variable_name found ++ variable_name x ∷ []
map-push [] x = refl
map-push (y ∷ ys) x = ap (λ l. variable_name y ∷ l) (map-push ys x)

pub seen-variable : (found : List ℕ) (x : ℕ) → AreSmall found → x < 2 ^ 64 → seen_by token.Variable (names_of found) (variable_name x) ≡ names_of (add_vars (var x) found)
seen-variable found x h k = ap (seen_after (names_of found) (variable_name x)) (known-is found x h k) ∙ go (has found x)
  where
    go : (b : Bool) → seen_after (names_of found) (variable_name x) (cond b (Some (place found x)) None) ≡ names_of (if b then found else found ++ x ∷ [])
    go true = refl
    go false = sym (map-push found x)

place-new : (found : List ℕ) (x : ℕ) → has found x ≡ false → place (found ++ x ∷ []) x ≡ length found + 1
place-new [] x h = let e = eq-eqb x x refl in rw e refl
place-new (y ∷ ys) x h = go (nat_eq y x) h (place-new ys x)
  where
    go : (b : Bool) → (b || has ys x) ≡ false → (has ys x ≡ false → place (ys ++ x ∷ []) x ≡ length ys + 1) → cond b 1 (place (ys ++ x ∷ []) x + 1) ≡ length (y ∷ ys) + 1
    go true h ih = absurd (false≢true (sym h))
    go false h ih = omega (arith, ih h)

length-map : (found : List ℕ) → length (map variable_name found) ≡ length found
length-map [] = refl
length-map (y ∷ ys) = let e = length-map ys in omega (arith, e)

-- a variable is read as its place among those that were found
pub variable-leaf : (found later : List ℕ) (x : ℕ) → AreSmall found → x < 2 ^ 64 → IsPrefix (add_vars (var x) found) later
    → leaf_by token.Variable (names_of found) (variable_name x) ≡ Variable (place later x)
variable-leaf found later x h k prefix =
    ap (λ o. Variable (number_after (names_of found) o)) (known-is found x h k)
    ∙ ap Variable (go (has found x) refl)
    ∙ sym (ap Variable (place-prefix (add_vars (var x) found) later x (has-added found x) prefix))
  where
    go : (b : Bool) → has found x ≡ b → number_after (names_of found) (cond b (Some (place found x)) None) ≡ place (if b then found else found ++ x ∷ []) x
    go true e = refl
    go false e = ap (λ n. n + 1) (length-map found) ∙ sym (place-new found x e)

mutual
  pub small-vars : (names : List Text) (t : Tree) (found : List ℕ) → IsWritable names t → AreSmall found → AreSmall (add_vars t found)
  small-vars names (var x) found h k = go (has found x)
    where
      push : (ys : List ℕ) → AreSmall ys → AreSmall (ys ++ x ∷ [])
      push [] p = (h, tt)
      push (y ∷ ys) p = (p.0, push ys p.1)

      go : (b : Bool) → AreSmall (if b then found else found ++ x ∷ [])
      go true = k
      go false = push found k
  small-vars names (int z) found h k = k
  small-vars names (atom a) found h k = k
  small-vars names (node a ts) found h k = small-all_vars names ts found h.1 k

  pub small-all_vars : (names : List Text) (ts : Trees) (found : List ℕ) → AreWritable names ts → AreSmall found → AreSmall (add_all_vars ts found)
  small-all_vars names none found h k = k
  small-all_vars names (more t ts) found h k = small-all_vars names ts (add_vars t found) h.1 (small-vars names t found h.0 k)
