-- What is asked, in short.
use Rattle.std.proofs.Common.{◌≡◌, ℕ, zero, suc, ◌+◌, List, [], ◌∷◌, ◌++◌, take, slice_get, Option, Some, None, true, refl, ap, sym, ◌∙◌, subst, arith}
use Rattle.std.specs.List.{AllByRecursion}
use Rattle.std.proofs.lemmas.Bool.{false≢true}
use Rattle.ap_index.specs.declared.key.Key.{Key}
use Rattle.ap_index.specs.declared.key.Key.TheVariants.{Atom, Integer, Structure}
use Rattle.ap_index.specs.declared.head.Ask.{Ask}
use Rattle.ap_index.specs.declared.word.Short.{Short}
use Rattle.ap_index.specs.Keys.{IsKeyOf}
use Rattle.ap_index.specs.Heads.{IsMet}
use Rattle.ap_index.specs.Words.{word_of, word_or_nothing, HasAsked, IsShortOf}

pub all-joined : (P : Ask → Type 0) (es : List Ask) (a : Ask) → AllByRecursion P es × P a → AllByRecursion P (es ++ a ∷ [])
all-joined P [] a h = (h.1, tt)
all-joined P (e ∷ es) a h = (h.0.0, all-joined P es a (h.0.1, h.1))

pub all-parted : (P : Ask → Type 0) (es : List Ask) (a : Ask) → AllByRecursion P (es ++ a ∷ []) → AllByRecursion P es × P a
all-parted P [] a h = (tt, h.0)
all-parted P (e ∷ es) a h = let q = all-parted P es a h.1 in ((h.0, q.0), q.1)

pub take-next : (n : ℕ) (es : List Ask) (a : Ask) → slice_get es n ≡ Some a → take (n + 1) es ≡ take n es ++ a ∷ []
take-next zero [] a e = absurd (let z : ⊥ = cc in z)
take-next zero (e ∷ es) a q = let same : e ≡ a = cc in ap (λ x. x ∷ []) same
take-next (suc n) [] a e = absurd (let z : ⊥ = cc in z)
take-next (suc n) (e ∷ es) a q = ap (λ m. take m (e ∷ es)) (let z : suc n + 1 ≡ suc (n + 1) = omega arith in z) ∙ ap (λ xs. e ∷ xs) (take-next n es a q)

-- a word of no kind is of no key
none-asked : (o : Option Key) → (word_or_nothing o).kind ≡ 0 → o ≡ None
none-asked None e = refl
none-asked (Some (Atom a)) e = absurd (let z : ⊥ = omega (arith, e) in z)
none-asked (Some (Integer z)) e = absurd (let z : ⊥ = omega (arith, e) in z)
none-asked (Some (Structure f n)) e = absurd (let z : ⊥ = omega (arith, e) in z)

module _ (es : List Ask) (a : Ask) (s : Short) (h : IsShortOf es s) where
  -- a key of the first argument, of which nothing was asked
  pub short-first : a.argument ≡ 1 → s.first.kind ≡ 0 → IsShortOf (es ++ a ∷ []) (record s { first = word_of a.key })
  short-first one none =
      let nothing : h.first ≡ None = none-asked h.first (ap (λ w. w.kind) (sym h.first_is) ∙ none) in
      record {
        first = Some a.key;
        second = h.second;
        first_is = refl;
        second_is = h.second_is;
        needed = λ x met. let p = all-parted (IsMet x) es a met in (subst (λ w. IsKeyOf a.key (x w)) one p.1, (h.needed x p.0).1);
        enough = λ more x u v. all-joined (IsMet x) es a (h.enough more x (subst (λ o. HasAsked o (x 1)) (sym nothing) tt) v, subst (λ w. IsKeyOf a.key (x w)) (sym one) u);
      }

  -- one of another argument
  pub short-second : s.second.kind ≡ 0 → IsShortOf (es ++ a ∷ []) (record s { argument = a.argument; second = word_of a.key })
  short-second none =
      let nothing : h.second ≡ None = none-asked h.second (ap (λ w. w.kind) (sym h.second_is) ∙ none) in
      record {
        first = h.first;
        second = Some a.key;
        first_is = h.first_is;
        second_is = refl;
        needed = λ x met. let p = all-parted (IsMet x) es a met in ((h.needed x p.0).0, p.1);
        enough = λ more x u v. all-joined (IsMet x) es a (h.enough more x u (subst (λ o. HasAsked o (x s.argument)) (sym nothing) tt), v);
      }

  -- more
  pub short-more : IsShortOf (es ++ a ∷ []) (record s { more = true })
  short-more = record {
    first = h.first;
    second = h.second;
    first_is = h.first_is;
    second_is = h.second_is;
    needed = λ x met. h.needed x (all-parted (IsMet x) es a met).0;
    enough = λ more. absurd (false≢true (sym more));
  }

-- of nothing
pub short-nothing : (es : List Ask) (s : Short) → s.first ≡ word_or_nothing None → s.second ≡ word_or_nothing None → IsShortOf (take 0 es) s
short-nothing es s f g = go es
  where
    go : (es : List Ask) → IsShortOf (take 0 es) s
    go [] = record { first = None; second = None; first_is = f; second_is = g; needed = λ x met. (tt, tt); enough = λ more x u v. tt }
    go (e ∷ es) = record { first = None; second = None; first_is = f; second_is = g; needed = λ x met. (tt, tt); enough = λ more x u v. tt }
