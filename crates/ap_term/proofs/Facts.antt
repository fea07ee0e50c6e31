-- Facts on tests, numbers and functions that the library has not.
use Rattle.std.proofs.Common.{◌≡◌, ℕ, ◌+◌, ◌<◌, ◌⊎◌, inl, inr, Bool, true, false, ◌==◌, nat_eq, nat_lt, refl, sym, arith}
use Rattle.std.proofs.lemmas.Bool.{lt-ltb, le-ltb, eq-eqb, ne_eqb, cases_order}
use Rattle.std.proofs.lemmas.Bool.Decides.{nat_tests}
use Rattle.std.specs.Ordering.{nat_cmp}
use Rattle.std.specs.declared.cmp.Ordering.TheVariants.{Less, Equal, Greater}

-- tests of which each tells the other are one
pub same_bool : (a b : Bool) → (a ≡ true → b ≡ true) → (b ≡ true → a ≡ true) → a ≡ b
same_bool true b h k = sym (h refl)
same_bool false true h k = k refl
same_bool false false h k = refl

-- functions that give the same everywhere
pub funext : {A B : Type 0} (f g : A → B) → ((a : A) → f a ≡ g a) → f ≡ g
funext f g h = λ i. λ a. h a i

-- ---- numbers

pub lt-or-eq : (k n : ℕ) → k < n + 1 → (k < n) ⊎ (k ≡ n)
lt-or-eq k n h =
    elim (cases_order k n) [
      | inl e ↦ inr e
      | inr w ↦ elim w [ inl a ↦ inl a | inr b ↦ absurd (omega arith) ]
    ]

pub not_zero : (n : ℕ) → (n + 1 == 0) ≡ false
not_zero n = ne_eqb (n + 1) 0 (λ e. absurd (omega arith))

pub below-other : (m n : ℕ) → m < n → nat_eq m n ≡ false
below-other m n h = grind (arith, nat_tests)

-- ---- the order of two numbers

pub cmp_less : (a b : ℕ) → a < b → nat_cmp a b ≡ Less
cmp_less a b h = rw (lt-ltb a b h) refl

pub cmp_equal : (a b : ℕ) → a ≡ b → nat_cmp a b ≡ Equal
cmp_equal a b h = let l : nat_lt a b ≡ false = le-ltb a b (omega arith) in rw (l, eq-eqb a b h) refl

pub cmp_greater : (a b : ℕ) → b < a → nat_cmp a b ≡ Greater
cmp_greater a b h =
    let l : nat_lt a b ≡ false = le-ltb a b (omega arith) in
    let n : (a == b) ≡ false = ne_eqb a b (λ e. absurd (omega arith)) in rw (l, n) refl
