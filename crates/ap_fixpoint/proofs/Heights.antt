-- How much a state allows, as a number: it is greater where more is allowed, and there is a greatest one for sets below a bound.
use Rattle.std.proofs.Common.{◌≡◌, ℕ, zero, suc, ◌+◌, ◌-◌, ◌<◌, ◌≤◌, inl, inr, Bool, true, false, nat_eq, List, [], ◌∷◌, refl, ap, sym, ◌∙◌, subst, arith}
use Rattle.std.proofs.lemmas.Bool.{false≢true, eqb-true, and_cases, or_left, or_right}
use Rattle.std.proofs.lemmas.Nat.{and_le_r}
use Rattle.std.specs.List.{list_all}
use Rattle.std.specs.Prelude.{bit_and}
use Rattle.ap_sharing.specs.VarSet.{both, within}
use Rattle.ap_sharing.specs.Sets.{listed}
use Rattle.ap_sharing.specs.Share.{Share, is_member}
use Rattle.ap_sharing.proofs.Elements.{same_test}
use Rattle.ap_absunify.specs.declared.states.State.{State}
use Rattle.ap_absunify.specs.declared.states.State.TheVariants.{Unreachable, Reachable}
use Rattle.ap_patterns.specs.Covered.{is_share_covered, is_covered}
use Rattle.ap_patterns.proofs.Coverings.{Within, Below}
use Rattle.ap_fixpoint.proofs.Order.{within_trans, member_cases, member_within}

-- ---- numbers below a bound that pass a test

abbrev pub one_if : Bool → ℕ
one_if true = 1
one_if false = 0

abbrev pub count : (ℕ → Bool) → ℕ → ℕ
count p zero = 0
count p (suc n) = one_if (p n) + count p n

count-few : (p : ℕ → Bool) (n : ℕ) → count p n ≤ n
count-few p zero = omega arith
count-few p (suc n) = omega (arith, one_few (p n), count-few p n)
  where
    one_few : (b : Bool) → one_if b ≤ 1
    one_few true = omega arith
    one_few false = omega arith

one_more : (p q : Bool) → (p ≡ true → q ≡ true) → one_if p ≤ one_if q
one_more true q h = subst (λ b. 1 ≤ one_if b) (sym (h refl)) (omega arith)
one_more false q h = omega arith

count-more : (p q : ℕ → Bool) (n : ℕ) → ((k : ℕ) → p k ≡ true → q k ≡ true) → count p n ≤ count q n
count-more p q zero h = omega arith
count-more p q (suc n) h = omega (arith, one_more (p n) (q n) (h n), count-more p q n h)

count-grows : (p q : ℕ → Bool) (n k : ℕ) → ((i : ℕ) → p i ≡ true → q i ≡ true) → k < n → p k ≡ false → q k ≡ true → count p n < count q n
count-grows p q zero k h l e f = absurd (omega (arith, l))
count-grows p q (suc n) k h l e f = go (count-grows p q n k h) (nat_eq k n) refl
  where
    here : k ≡ n → one_if (p n) < one_if (q n)
    here i = subst (λ b. one_if b < one_if (q n)) (sym e ∙ ap p i) (subst (λ b. 0 < one_if b) (sym f ∙ ap q i) (omega arith))

    other : k < suc n → nat_eq k n ≡ false → k < n
    other m j = let ne : k ≡ n → ⊥ = λ r. false≢true (sym j ∙ ap (nat_eq k) (sym r) ∙ same_test k) in omega (arith, m, ne)

    go : (k < n → p k ≡ false → q k ≡ true → count p n < count q n) → (b : Bool) → nat_eq k n ≡ b → one_if (p n) + count p n < one_if (q n) + count q n
    go ih true i = omega (arith, here (eqb-true k n i), count-more p q n h)
    go ih false i = omega (arith, one_more (p n) (q n) (h n), ih (other l i) e f)

-- ---- states of sets below a bound

pub record BoundedParts (b : ℕ) (sh : Share) (fr : ℕ) : Type 0 where
  pub any : sh.any < b
  pub sets : (s : ℕ) → listed s sh.sets ≡ true → s < b
  pub free : fr < b

abbrev pub Bounded : ℕ → State → Type 0
Bounded b Unreachable = Unit {0}
Bounded b (Reachable sh fr) = BoundedParts b sh fr

-- its members, and beside them what is in `any` and what isn't free
abbrev pub height : ℕ → State → ℕ
height b Unreachable = 0
height b (Reachable sh fr) = suc (count (λ s. is_member s sh) b + (sh.any + (b - fr)))

abbrev pub top : ℕ → ℕ
top b = suc (b + (b + b))

pub height-few : (b : ℕ) (a : State) → Bounded b a → height b a ≤ top b
height-few b Unreachable f = omega arith
height-few b (Reachable sh fr) f = omega (arith, count-few (λ s. is_member s sh) b, f.any)

-- ---- what allows more is higher

within-less : (s t : ℕ) → within s t ≡ true → s ≤ t
unfolding within both
within-less s t h = let e : bit_and s t ≡ s = eqb-true (bit_and s t) s h in omega (arith, e, and_le_r s t)

member_moves : (sh : Share) (fr : ℕ) (sh2 : Share) (fr2 : ℕ) → Within sh fr sh2 fr2 → (s : ℕ) → is_member s sh ≡ true → is_member s sh2 ≡ true
member_moves sh fr sh2 fr2 w s h =
    elim (member_cases s sh h) [ inl i ↦ w.sets s i | inr i ↦ member_within s sh2 (within_trans s sh.any sh2.any i w.any) ]

pub height-more : (b : ℕ) (a c : State) → Below a c → height b a ≤ height b c
height-more b Unreachable c h = omega arith
height-more b (Reachable sh fr) Unreachable h = absurd h
height-more b (Reachable sh fr) (Reachable sh2 fr2) h =
    omega (arith, count-more (λ s. is_member s sh) (λ s. is_member s sh2) b (member_moves sh fr sh2 fr2 h), within-less sh.any sh2.any h.any, within-less fr2 fr h.free)

not_all : (p : ℕ → Bool) (ss : List ℕ) → list_all p ss ≡ false → (s : ℕ) × (listed s ss ≡ true) × (p s ≡ false)
not_all p [] h = absurd (false≢true (sym h))
not_all p (t ∷ ts) h =
    elim (and_cases (p t) (list_all p ts) h) [
      | inl e ↦ (t, or_left (nat_eq t t) (listed t ts) (same_test t), e)
      | inr e ↦ (let r = not_all p ts e in (r.0, or_right (nat_eq r.0 t) (listed r.0 ts) r.1, r.2))
    ]

differ : (s t r : ℕ) → within r s ≡ false → within r t ≡ true → s ≡ t → ⊥
differ s t r h k e = false≢true (sym h ∙ ap (within r) e ∙ k)

-- where something is covered that wasn't, more is allowed
pub height-grows : (b : ℕ) (a c g : State) → Bounded b a → Bounded b c → Below a c → Below g c → is_covered g a ≡ false → height b a < height b c
height-grows b a c Unreachable fa fc h k n = absurd (false≢true (sym n))
height-grows b a Unreachable (Reachable gs gf) fa fc h k n = absurd k
height-grows b Unreachable (Reachable sh2 fr2) (Reachable gs gf) fa fc h k n = omega arith
height-grows b (Reachable sh fr) (Reachable sh2 fr2) (Reachable gs gf) fa fc h k n =
    elim (and_cases (is_share_covered gs sh) (within fr gf) n) [
      | inl e ↦ elim (and_cases (within gs.any sh.any) (list_all (λ s. is_member s sh) gs.sets) e) [
        | inl i ↦ (let ne : sh.any ≡ sh2.any → ⊥ = differ sh.any sh2.any gs.any i k.any in omega (arith, ne, members, any, free))
        | inr i ↦ (let r = not_all (λ s. is_member s sh) gs.sets i in
            omega (arith, count-grows (λ s. is_member s sh) (λ s. is_member s sh2) b r.0 (member_moves sh fr sh2 fr2 h) (low r.0 (k.sets r.0 r.1)) r.2 (k.sets r.0 r.1), any, free))
      ]
      | inr e ↦ (let ne : fr ≡ fr2 → ⊥ = (λ i. false≢true (sym e ∙ ap (λ z. within z gf) i ∙ k.free)) in let l : fr < b = fa.free in omega (arith, ne, l, members, any, free))
    ]
  where
    members : count (λ s. is_member s sh) b ≤ count (λ s. is_member s sh2) b
    members = count-more (λ s. is_member s sh) (λ s. is_member s sh2) b (member_moves sh fr sh2 fr2 h)

    any : sh.any ≤ sh2.any
    any = within-less sh.any sh2.any h.any

    free : fr2 ≤ fr
    free = within-less fr2 fr h.free

    low : (s : ℕ) → is_member s sh2 ≡ true → s < b
    low s m = elim (member_cases s sh2 m) [ inl i ↦ fc.sets s i | inr i ↦ (let l = within-less s sh2.any i in let m : sh2.any < b = fc.any in omega (arith, l, m)) ]
