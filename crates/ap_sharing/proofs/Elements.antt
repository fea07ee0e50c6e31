-- Sets by their elements.
use Rattle.std.proofs.Common.{◌≡◌, ℕ, zero, suc, ◌+◌, ◌<◌, ◌%◌, ◌^◌, min, max, Bool, true, false, not, ◌||◌, ◌&&◌, nat_eq, refl, ap, ap₂, sym, ◌∙◌, arith}
use Rattle.std.proofs.lemmas.Bool.{false≢true, eqb-true, eq-eqb, and_parts}
use Rattle.std.proofs.lemmas.Nat.Bits.{bit_at_or, bit_at_and, bit_at_xor, bit_at-lt, bit_at-zero, bit_at-pow_same, bit_at-pow_other, same_from_bits}
use Rattle.std.specs.Int.{bit_at}
use Rattle.std.specs.Prelude.{bit_and}
use Rattle.ap_sharing.specs.VarSet.{has, empty, just, union, both, without, meets, within}

pub same_test : (x : ℕ) → nat_eq x x ≡ true
same_test x = eq-eqb x x refl

-- a test has one answer
pub clash : (b : Bool) → b ≡ true → b ≡ false → ⊥
clash b h k = false≢true (sym k ∙ h)

max_test : (p q : ℕ) → p < 2 → q < 2 → nat_eq (max p q) 1 ≡ (nat_eq p 1 || nat_eq q 1)
max_test zero zero h k = refl
max_test zero (suc zero) h k = refl
max_test (suc zero) zero h k = refl
max_test (suc zero) (suc zero) h k = refl
max_test (suc (suc p)) q h k = absurd (omega arith)
max_test p (suc (suc q)) h k = absurd (omega arith)

min_test : (p q : ℕ) → p < 2 → q < 2 → nat_eq (min p q) 1 ≡ (nat_eq p 1 && nat_eq q 1)
min_test zero zero h k = refl
min_test zero (suc zero) h k = refl
min_test (suc zero) zero h k = refl
min_test (suc zero) (suc zero) h k = refl
min_test (suc (suc p)) q h k = absurd (omega arith)
min_test p (suc (suc q)) h k = absurd (omega arith)

less_test : (p q : ℕ) → p < 2 → q < 2 → nat_eq ((p + min p q) % 2) 1 ≡ (nat_eq p 1 && not (nat_eq q 1))
less_test zero zero h k = refl
less_test zero (suc zero) h k = refl
less_test (suc zero) zero h k = refl
less_test (suc zero) (suc zero) h k = refl
less_test (suc (suc p)) q h k = absurd (omega arith)
less_test p (suc (suc q)) h k = absurd (omega arith)

pub has-empty : (x : ℕ) → has empty x ≡ false
unfolding has empty
has-empty x = ap (λ n. nat_eq n 1) (bit_at-zero x)

pub has-union : (s t x : ℕ) → has (union s t) x ≡ (has s x || has t x)
unfolding has union
has-union s t x = ap (λ n. nat_eq n 1) (bit_at_or s t x) ∙ max_test (bit_at s x) (bit_at t x) (bit_at-lt s x) (bit_at-lt t x)

pub has-both : (s t x : ℕ) → has (both s t) x ≡ (has s x && has t x)
unfolding has both
has-both s t x = ap (λ n. nat_eq n 1) (bit_at_and s t x) ∙ min_test (bit_at s x) (bit_at t x) (bit_at-lt s x) (bit_at-lt t x)

pub has-without : (s t x : ℕ) → has (without s t) x ≡ (has s x && not (has t x))
unfolding has without
has-without s t x =
    ap (λ n. nat_eq n 1) (bit_at_xor s (bit_and s t) x ∙ ap (λ n. (bit_at s x + n) % 2) (bit_at_and s t x)) ∙ less_test (bit_at s x) (bit_at t x) (bit_at-lt s x) (bit_at-lt t x)

pub has-just : (x y : ℕ) → has (just x) y ≡ nat_eq y x
unfolding has just
has-just x y = go (nat_eq y x) refl
  where
    go : (b : Bool) → nat_eq y x ≡ b → nat_eq (bit_at (2 ^ x) y) 1 ≡ b
    go true e = ap (λ z. nat_eq (bit_at (2 ^ x) z) 1) (eqb-true y x e) ∙ ap (λ n. nat_eq n 1) (bit_at-pow_same x)
    go false e = ap (λ n. nat_eq n 1) (bit_at-pow_other x y (λ q. false≢true (sym e ∙ ap (nat_eq y) (sym q) ∙ same_test y)))

bit_same : (p q : ℕ) → p < 2 → q < 2 → nat_eq p 1 ≡ nat_eq q 1 → p ≡ q
bit_same zero zero h k e = refl
bit_same zero (suc zero) h k e = absurd (false≢true e)
bit_same (suc zero) zero h k e = absurd (false≢true (sym e))
bit_same (suc zero) (suc zero) h k e = refl
bit_same (suc (suc p)) q h k e = absurd (omega arith)
bit_same p (suc (suc q)) h k e = absurd (omega arith)

-- two sets with the same elements are one
pub same_set : (s t : ℕ) → ((x : ℕ) → has s x ≡ has t x) → s ≡ t
unfolding has
same_set s t h = same_from_bits s t (λ i. bit_same (bit_at s i) (bit_at t i) (bit_at-lt s i) (bit_at-lt t i) (h i))

pub meets-at : (s t x : ℕ) → has s x ≡ true → has t x ≡ true → meets s t ≡ true
unfolding meets both empty
meets-at s t x h k = go (nat_eq (bit_and s t) 0) refl
  where
    go : (b : Bool) → nat_eq (bit_and s t) 0 ≡ b → not b ≡ true
    go true e = absurd (false≢true (sym (ap (λ n. has n x) (eqb-true (bit_and s t) 0 e) ∙ has-empty x) ∙ has-both s t x ∙ ap₂ (λ a b. a && b) h k))
    go false e = refl

pub meets-none : (s t : ℕ) → ((x : ℕ) → has s x ≡ true → has t x ≡ true → ⊥) → meets s t ≡ false
unfolding meets both empty
meets-none s t h = ap (λ n. not (nat_eq n 0)) (same_set (both s t) empty (λ x. has-both s t x ∙ go (has s x) (has t x) (h x) ∙ sym (has-empty x)))
  where
    go : (a b : Bool) → (a ≡ true → b ≡ true → ⊥) → (a && b) ≡ false
    go true true k = absurd (k refl refl)
    go true false k = refl
    go false b k = refl

pub within-at : (s t x : ℕ) → within s t ≡ true → has s x ≡ true → has t x ≡ true
unfolding within both
within-at s t x h k = go (has s x) (has t x) k (sym (has-both s t x) ∙ ap (λ n. has n x) (eqb-true (both s t) s h))
  where
    go : (a b : Bool) → a ≡ true → (a && b) ≡ a → b ≡ true
    go true b e q = q
    go false b e q = absurd (false≢true e)

pub within-made : (s t : ℕ) → ((x : ℕ) → has s x ≡ true → has t x ≡ true) → within s t ≡ true
unfolding within both
within-made s t h = ap (λ n. nat_eq n s) (same_set (both s t) s (λ x. has-both s t x ∙ go (has s x) (has t x) (h x))) ∙ same_test s
  where
    go : (a b : Bool) → (a ≡ true → b ≡ true) → (a && b) ≡ a
    go true b k = k refl
    go false b k = refl

-- ---- union

pub union_twice : (s : ℕ) → union s s ≡ s
union_twice s = same_set (union s s) s (λ x. has-union s s x ∙ go (has s x))
  where
    go : (p : Bool) → (p || p) ≡ p
    go true = refl
    go false = refl

pub union_comm : (s t : ℕ) → union s t ≡ union t s
union_comm s t = same_set (union s t) (union t s) (λ x. has-union s t x ∙ go (has s x) (has t x) ∙ sym (has-union t s x))
  where
    go : (p q : Bool) → (p || q) ≡ (q || p)
    go true true = refl
    go true false = refl
    go false true = refl
    go false false = refl

pub union_assoc : (s t r : ℕ) → union (union s t) r ≡ union s (union t r)
union_assoc s t r = same_set (union (union s t) r) (union s (union t r)) (λ x.
    has-union (union s t) r x ∙ ap (λ b. b || has r x) (has-union s t x) ∙ go (has s x) (has t x) (has r x) ∙ sym (has-union s (union t r) x ∙ ap (λ b. has s x || b) (has-union t r x)))
  where
    go : (p q l : Bool) → ((p || q) || l) ≡ (p || (q || l))
    go true q l = refl
    go false q l = refl

pub union-empty : (s : ℕ) → union s empty ≡ s
union-empty s = same_set (union s empty) s (λ x. has-union s empty x ∙ ap (λ b. has s x || b) (has-empty x) ∙ go (has s x))
  where
    go : (p : Bool) → (p || false) ≡ p
    go true = refl
    go false = refl

pub empty-union : (s : ℕ) → union empty s ≡ s
empty-union s = union_comm empty s ∙ union-empty s

pub both_left : (s t x : ℕ) → has (both s t) x ≡ true → has s x ≡ true
both_left s t x h = (and_parts (has s x) (has t x) (sym (has-both s t x) ∙ h)).0

pub without_made : (s t x : ℕ) → has s x ≡ true → has t x ≡ false → has (without s t) x ≡ true
without_made s t x h k = has-without s t x ∙ ap₂ (λ a b. a && not b) h k

pub without_parts : (s t x : ℕ) → has (without s t) x ≡ true → (has s x ≡ true) × (has t x ≡ false)
without_parts s t x h = go (has s x) (has t x) (sym (has-without s t x) ∙ h)
  where
    go : (a b : Bool) → (a && not b) ≡ true → (a ≡ true) × (b ≡ false)
    go true true k = absurd (false≢true k)
    go true false k = (refl, refl)
    go false b k = absurd (false≢true k)
