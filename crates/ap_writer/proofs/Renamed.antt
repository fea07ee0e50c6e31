-- What is printed of a tuple is numbered the same under other names of its variables.
use Rattle.std.proofs.Common.{◌≡◌, ℕ, ◌+◌, Bool, true, false, ◌||◌, nat_eq, if◌then◌else◌, List, [], ◌∷◌, ◌++◌, map, refl, ap, sym, ◌∙◌, arith}
use Rattle.std.proofs.Math.Bool.{or-false, or_assoc}
use Rattle.std.proofs.lemmas.Bool.{false≢true, or_left, or_right, eqb-true, eq-eqb}
use Rattle.std.proofs.lemmas.Cmp.{nat_eq_equiv}
use Rattle.ap_term.specs.Tree.{Tree, Trees, var, int, atom, node, none, more}
use Rattle.ap_term.specs.Vars.{has, add_vars, add_all_vars, occurs, occurs_all}
use Rattle.ap_term.specs.Substitution.{instance, instance_all}
use Rattle.ap_term.specs.UpToNames.{place, renumbered, SameUpToNames}
use Rattle.ap_term.specs.Laws.{KeepsApart}
use Rattle.ap_term.proofs.Copies.{instance_all_twice}
use Rattle.ap_term.proofs.Solutions.{instance_all_agree}
use Rattle.ap_writer.specs.Text.{text, term_text}
use Rattle.ap_writer.specs.Line.{is_hidden, printed, printed_names, equations, answer_line}

-- ---- the variables found are those that occur

has-push : (xs : List ℕ) (y x : ℕ) → has (xs ++ y ∷ []) x ≡ (has xs x || nat_eq y x)
has-push [] y x = or-false (nat_eq y x)
has-push (z ∷ xs) y x = ap (λ b. nat_eq z x || b) (has-push xs y x) ∙ sym (or_assoc (nat_eq z x) (has xs x) (nat_eq y x))

has-var : (y : ℕ) (xs : List ℕ) (x : ℕ) → has (add_vars (var y) xs) x ≡ (has xs x || nat_eq x y)
has-var y xs x = go (has xs y) (nat_eq x y) refl refl
  where
    go : (b c : Bool) → has xs y ≡ b → nat_eq x y ≡ c → has (if b then xs else xs ++ y ∷ []) x ≡ (has xs x || nat_eq x y)
    go true true e f = let found : has xs x ≡ true = ap (has xs) (eqb-true x y f) ∙ e in found ∙ sym (or_left (has xs x) (nat_eq x y) found)
    go true false e f = sym (ap (λ c. has xs x || c) f ∙ or-false (has xs x))
    go false c e f = has-push xs y x ∙ ap (λ d. has xs x || d) (nat_eq_equiv.symm y x)

mutual
  has-add_vars : (t : Tree) (xs : List ℕ) (x : ℕ) → has (add_vars t xs) x ≡ (has xs x || occurs x t)
  has-add_vars (var y) xs x = has-var y xs x
  has-add_vars (int z) xs x = sym (or-false (has xs x))
  has-add_vars (atom a) xs x = sym (or-false (has xs x))
  has-add_vars (node a ts) xs x = has-add_all_vars ts xs x

  has-add_all_vars : (ts : Trees) (xs : List ℕ) (x : ℕ) → has (add_all_vars ts xs) x ≡ (has xs x || occurs_all x ts)
  has-add_all_vars none xs x = sym (or-false (has xs x))
  has-add_all_vars (more t ts) xs x =
      has-add_all_vars ts (add_vars t xs) x ∙ ap (λ b. b || occurs_all x ts) (has-add_vars t xs x) ∙ or_assoc (has xs x) (occurs x t) (occurs_all x ts)

-- ---- a renaming that keeps variables apart

module _ (r : ℕ → ℕ) (vs : List ℕ) (apart : KeepsApart r vs) where
  abbrev pub renamed : ℕ → Tree
  renamed x = var (r x)

  abbrev pub Inside : List ℕ → Type 0
  Inside xs = (x : ℕ) → has xs x ≡ true → has vs x ≡ true

  test_kept : (x y : ℕ) → has vs x ≡ true → has vs y ≡ true → nat_eq (r x) (r y) ≡ nat_eq x y
  test_kept x y h k = go (nat_eq x y) (nat_eq (r x) (r y)) refl refl
    where
      go : (a b : Bool) → nat_eq x y ≡ a → nat_eq (r x) (r y) ≡ b → nat_eq (r x) (r y) ≡ nat_eq x y
      go true b e f = eq-eqb (r x) (r y) (ap r (eqb-true x y e)) ∙ sym e
      go false true e f = absurd (false≢true (sym e ∙ eq-eqb x y (apart x y h k (eqb-true (r x) (r y) f))))
      go false false e f = f ∙ sym e

  has_kept : (xs : List ℕ) (x : ℕ) → Inside xs → has vs x ≡ true → has (map r xs) (r x) ≡ has xs x
  has_kept [] x i h = refl
  has_kept (y ∷ xs) x i h =
      ap (λ b. b || has (map r xs) (r x)) (test_kept y x (i y (or_left (nat_eq y y) (has xs y) (eq-eqb y y refl))) h)
      ∙ ap (λ b. nat_eq y x || b) (has_kept xs x (λ z o. i z (or_right (nat_eq y z) (has xs z) o)) h)

  map_push : (xs : List ℕ) (x : ℕ) → map r (xs ++ x ∷ []) ≡ map r xs ++ r x ∷ []
  map_push [] x = refl
  map_push (y ∷ xs) x = ap (λ ys. r y ∷ ys) (map_push xs x)

  mutual
    pub add_vars_kept : (t : Tree) (xs : List ℕ) → Inside (add_vars t xs) → add_vars (instance renamed t) (map r xs) ≡ map r (add_vars t xs)
    add_vars_kept (var x) xs i =
        ap (λ b. if b then map r xs else map r xs ++ r x ∷ []) (has_kept xs x (λ y o. i y (has-var x xs y ∙ or_left (has xs y) (nat_eq y x) o)) (i x (has-var x xs x ∙ or_right (has xs x) (nat_eq x x) (eq-eqb x x refl))))
        ∙ go (has xs x)
      where
        go : (b : Bool) → (if b then map r xs else map r xs ++ r x ∷ []) ≡ map r (if b then xs else xs ++ x ∷ [])
        go true = refl
        go false = sym (map_push xs x)
    add_vars_kept (int z) xs i = refl
    add_vars_kept (atom a) xs i = refl
    add_vars_kept (node a ts) xs i = add_all_vars_kept ts xs i

    pub add_all_vars_kept : (ts : Trees) (xs : List ℕ) → Inside (add_all_vars ts xs) → add_all_vars (instance_all renamed ts) (map r xs) ≡ map r (add_all_vars ts xs)
    add_all_vars_kept none xs i = refl
    add_all_vars_kept (more t ts) xs i =
        ap (add_all_vars (instance_all renamed ts)) (add_vars_kept t xs (λ y o. i y (has-add_all_vars ts (add_vars t xs) y ∙ or_left (has (add_vars t xs) y) (occurs_all y ts) o)))
        ∙ add_all_vars_kept ts (add_vars t xs) i

  pub place_kept : (xs : List ℕ) (x : ℕ) → Inside xs → has vs x ≡ true → place (map r xs) (r x) ≡ place xs x
  place_kept [] x i h = refl
  place_kept (y ∷ xs) x i h =
      ap (λ b. if b then 1 else place (map r xs) (r x) + 1) (test_kept y x (i y (or_left (nat_eq y y) (has xs y) (eq-eqb y y refl))) h)
      ∙ ap (λ n. if nat_eq y x then 1 else n + 1) (place_kept xs x (λ z o. i z (or_right (nat_eq y z) (has xs z) o)) h)

  renumbered-renamed : (ts : Trees) → ((x : ℕ) → occurs_all x ts ≡ true → has vs x ≡ true) → renumbered (instance_all renamed ts) ≡ renumbered ts
  renumbered-renamed ts inside =
      let found : List ℕ = add_all_vars ts [] in
      let found_inside : Inside found = λ x o. inside x (sym (has-add_all_vars ts [] x) ∙ o) in
      instance_all_twice renamed (λ x. var (place (add_all_vars (instance_all renamed ts) []) x)) ts
      ∙ instance_all_agree _ (λ x. var (place found x)) ts
      (λ x o. ap (λ ws. var (place ws (r x))) (add_all_vars_kept ts [] found_inside) ∙ ap var (place_kept found x found_inside (inside x o)))

-- ---- the numbering itself is such a renaming

place_above : (vs : List ℕ) (x : ℕ) → place vs x ≡ 0 → ⊥
place_above [] x h = absurd (omega arith)
place_above (v ∷ vs) x h = go (nat_eq v x) h
  where
    go : (b : Bool) → (if b then 1 else place vs x + 1) ≡ 0 → ⊥
    go true h = absurd (omega arith)
    go false h = absurd (omega arith)

pub place_apart : (vs : List ℕ) → KeepsApart (place vs) vs
place_apart [] x y h k e = absurd (false≢true h)
place_apart (v ∷ vs) x y h k e = go (nat_eq v x) (nat_eq v y) refl refl h k e (place_apart vs x y)
  where
    go : (a b : Bool) → nat_eq v x ≡ a → nat_eq v y ≡ b → (a || has vs x) ≡ true → (b || has vs y) ≡ true
        → (if a then 1 else place vs x + 1) ≡ (if b then 1 else place vs y + 1)
        → (has vs x ≡ true → has vs y ≡ true → place vs x ≡ place vs y → x ≡ y) → x ≡ y
    go true true p q h k e ih = sym (eqb-true v x p) ∙ eqb-true v y q
    go true false p q h k e ih = absurd (place_above vs y (omega arith))
    go false true p q h k e ih = absurd (place_above vs x (omega arith))
    go false false p q h k e ih = ih h k (omega arith)

-- ---- what is printed

printed-instance : (f : ℕ → Tree) (names : List (List ℕ)) (ts : Trees) → printed names (instance_all f ts) ≡ instance_all f (printed names ts)
printed-instance f [] ts = refl
printed-instance f (name ∷ names) none = refl
printed-instance f (name ∷ names) (more t ts) = go (is_hidden name) (printed-instance f names ts)
  where
    go : (b : Bool) → printed names (instance_all f ts) ≡ instance_all f (printed names ts)
        → (if b then printed names (instance_all f ts) else more (instance f t) (printed names (instance_all f ts))) ≡ instance_all f (if b then printed names ts else more t (printed names ts))
    go true ih = ih
    go false ih = ap (more (instance f t)) ih

printed-occurs : (names : List (List ℕ)) (ts : Trees) (x : ℕ) → occurs_all x (printed names ts) ≡ true → occurs_all x ts ≡ true
printed-occurs [] ts x h = absurd (false≢true h)
printed-occurs (name ∷ names) none x h = absurd (false≢true h)
printed-occurs (name ∷ names) (more t ts) x h = go (is_hidden name) h (printed-occurs names ts x)
  where
    go : (b : Bool) → occurs_all x (if b then printed names ts else more t (printed names ts)) ≡ true → (occurs_all x (printed names ts) ≡ true → occurs_all x ts ≡ true)
        → (occurs x t || occurs_all x ts) ≡ true
    go true h ih = or_right (occurs x t) (occurs_all x ts) (ih h)
    go false h ih = split (occurs x t) h ih
      where
        split : (b : Bool) → (b || occurs_all x (printed names ts)) ≡ true → (occurs_all x (printed names ts) ≡ true → occurs_all x ts ≡ true) → (b || occurs_all x ts) ≡ true
        split true h ih = refl
        split false h ih = ih h

printed-renumbered : (names : List (List ℕ)) (ts : Trees) → renumbered (printed names (renumbered ts)) ≡ renumbered (printed names ts)
printed-renumbered names ts =
    let vs : List ℕ = add_all_vars ts [] in
    ap renumbered (printed-instance (λ x. var (place vs x)) names ts)
    ∙ renumbered-renamed (place vs) vs (place_apart vs) (printed names ts) (λ x o. has-add_all_vars ts [] x ∙ printed-occurs names ts x o)

pub line-renamed : (atoms names : List (List ℕ)) (ts us : Trees) → SameUpToNames ts us → answer_line atoms names ts ≡ answer_line atoms names us
line-renamed atoms names ts us h =
    ap (equations atoms (printed_names names)) (sym (printed-renumbered names ts) ∙ ap (λ vs. renumbered (printed names vs)) h ∙ printed-renumbered names us)

first : Trees → Tree
first none = atom 0
first (more t ts) = t

pub text-renamed : (atoms : List (List ℕ)) (t u : Tree) → SameUpToNames (more t none) (more u none) → term_text atoms t ≡ term_text atoms u
unfolding first
text-renamed atoms t u h = ap (λ ts. text atoms (first ts)) h
