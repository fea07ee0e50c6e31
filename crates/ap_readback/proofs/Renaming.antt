-- A line's numbering, twice.
use Rattle.std.proofs.Common.{◌≡◌, ℕ, ◌+◌, ◌<◌, ◌^◌, ◌&&◌, ◌||◌, Bool, true, false, nat_eq, List, [], ◌∷◌, ◌++◌, map, length, refl, ap, subst, ◌∙◌, arith}
use Rattle.std.specs.Prelude.{nat_le}
use Rattle.std.proofs.lemmas.Bool.{false≢true, or_right}
use Rattle.ap_lexer.specs.Lexeme.{Text}
use Rattle.ap_term.specs.Tree.{Tree, Trees, var, int, atom, node, none, more, count_trees}
use Rattle.ap_term.specs.Vars.{has, add_vars, occurs, occurs_all}
use Rattle.ap_term.specs.Substitution.{instance, instance_all}
use Rattle.ap_term.specs.UpToNames.{place}
use Rattle.ap_term.specs.Blocks.{IsPrefix}
use Rattle.ap_term.specs.WellFormed.{callable}
use Rattle.ap_writer.specs.Text.{name_at, numbered_by}
use Rattle.ap_writer.specs.Writable.{IsWritable, AreWritable}
use Rattle.ap_writer.proofs.Renamed.{add_vars_kept, place_kept, place_apart}
use Rattle.ap_writer.proofs.Lines.{place-le}
use Rattle.ap_cge.specs.Printed.{is_enclosed}
use Rattle.ap_readback.specs.Printable.{has_functors, have_functors, is_functor}

has-append : (xs ys : List ℕ) (x : ℕ) → has xs x ≡ true → has (xs ++ ys) x ≡ true
has-append [] ys x h = absurd (false≢true h)
has-append (z ∷ xs) ys x h = go (nat_eq z x) h (has-append xs ys x)
  where
    go : (b : Bool) → (b || has xs x) ≡ true → (has xs x ≡ true → has (xs ++ ys) x ≡ true) → (b || has (xs ++ ys) x) ≡ true
    go true h ih = refl
    go false h ih = ih h

pub has-prefix : (xs ys : List ℕ) (x : ℕ) → IsPrefix xs ys → has xs x ≡ true → has ys x ≡ true
has-prefix xs ys x p h = subst (λ l. has l x ≡ true) p.1 (has-append xs p.0 x h)

module _ (found : List ℕ) where
  abbrev pub rho : ℕ → ℕ
  rho = place found

  -- the numbers of a front of the variables found, once more
  pub vars-again : (t : Tree) (xs : List ℕ) → IsPrefix (add_vars t xs) found → add_vars (instance (numbered_by found) t) (map rho xs) ≡ map rho (add_vars t xs)
  vars-again t xs p = add_vars_kept rho found (place_apart found) t xs (λ x h. has-prefix (add_vars t xs) found x p h)

  pub place-again : (x : ℕ) → has found x ≡ true → place (map rho found) (rho x) ≡ rho x
  place-again x h = place_kept rho found (place_apart found) found x (λ y k. k) h

  mutual
    -- a term that was numbered is numbered the same once more
    pub instance-again : (later : List ℕ) (t : Tree) → later ≡ map rho found → ((x : ℕ) → occurs x t ≡ true → has found x ≡ true) → instance (numbered_by later) (instance (numbered_by found) t) ≡ instance (numbered_by found) t
    instance-again later (var x) e h = ap var (ap (λ l. place l (rho x)) e ∙ place-again x (h x (self x)))
      where
        self : (y : ℕ) → nat_eq y y ≡ true
        self y = grind (arith)
    instance-again later (int z) e h = refl
    instance-again later (atom a) e h = refl
    instance-again later (node a ts) e h = ap (node a) (instances-again later ts e h)

    pub instances-again : (later : List ℕ) (ts : Trees) → later ≡ map rho found → ((x : ℕ) → occurs_all x ts ≡ true → has found x ≡ true) → instance_all (numbered_by later) (instance_all (numbered_by found) ts) ≡ instance_all (numbered_by found) ts
    instances-again later none e h = refl
    instances-again later (more t ts) e h =
        ap (λ u. more u (instance_all (numbered_by later) (instance_all (numbered_by found) ts))) (instance-again later t e (λ x o. h x (or-left (occurs x t) (occurs_all x ts) o)))
        ∙ ap (more (instance (numbered_by found) t)) (instances-again later ts e (λ x o. h x (or_right (occurs x t) (occurs_all x ts) o)))
      where
        or-left : (a b : Bool) → a ≡ true → (a || b) ≡ true
        or-left true b k = refl
        or-left false b k = absurd (false≢true k)

  -- ---- what a renamed term keeps

  mutual
    pub writable-again : (names : List Text) (t : Tree) → length found + 1 < 2 ^ 64 → IsWritable names t → IsWritable names (instance (numbered_by found) t)
    writable-again names (var x) few h = omega (arith, place-le found x)
    writable-again names (int z) few h = h
    writable-again names (atom a) few h = h
    writable-again names (node a ts) few h = (h.0, writables-again names ts few h.1)

    pub writables-again : (names : List Text) (ts : Trees) → length found + 1 < 2 ^ 64 → AreWritable names ts → AreWritable names (instance_all (numbered_by found) ts)
    writables-again names none few h = tt
    writables-again names (more t ts) few h = (writable-again names t few h.0, writables-again names ts few h.1)

  mutual
    pub functors-again : (names : List Text) (t : Tree) → has_functors names (instance (numbered_by found) t) ≡ has_functors names t
    functors-again names (var x) = refl
    functors-again names (int z) = refl
    functors-again names (atom a) = refl
    functors-again names (node a none) = refl
    functors-again names (node a (more t ts)) =
        ap (λ b. is_functor (name_at names a) && b) (ap (λ b. b && have_functors names (instance_all (numbered_by found) ts)) (functors-again names t) ∙ ap (λ b. has_functors names t && b) (all_functors-again names ts))

    pub all_functors-again : (names : List Text) (ts : Trees) → have_functors names (instance_all (numbered_by found) ts) ≡ have_functors names ts
    all_functors-again names none = refl
    all_functors-again names (more t ts) = ap (λ b. b && have_functors names (instance_all (numbered_by found) ts)) (functors-again names t) ∙ ap (λ b. has_functors names t && b) (all_functors-again names ts)

  pub enclosed-again : (names : List Text) (t : Tree) → callable t ≡ true → is_enclosed names (instance (numbered_by found) t) ≡ is_enclosed names t
  enclosed-again names (var x) h = absurd (false≢true h)
  enclosed-again names (int z) h = absurd (false≢true h)
  enclosed-again names (atom a) h = refl
  enclosed-again names (node a ts) h = refl

  count-again : (ts : Trees) → count_trees (instance_all (numbered_by found) ts) ≡ count_trees ts
  count-again none = refl
  count-again (more t ts) = ap (λ n. n + 1) (count-again ts)

  pub callable-again : (t : Tree) → callable t ≡ true → callable (instance (numbered_by found) t) ≡ true
  callable-again (var x) h = absurd (false≢true h)
  callable-again (int z) h = absurd (false≢true h)
  callable-again (atom a) h = refl
  callable-again (node a ts) h = ap (λ n. nat_le 1 n && nat_le n 255) (count-again ts) ∙ h
