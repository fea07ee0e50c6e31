-- Sets in two words.
use Rattle.std.proofs.Common.{◌≡◌, ℕ, ◌+◌, ◌*◌, ◌^◌, ◌-◌, ◌/◌, ◌%◌, ◌<◌, ◌≤◌, false, not, nat_eq, refl, ap, sym, ◌∙◌, arith, add-zero, pow-add}
use Rattle.std.specs.Prelude.{bit_and, bit_or, bit_xor}
use Rattle.std.proofs.lemmas.Nat.{or_block, and_block, xor_block, or_lt, xor_lt, and_le_l, shr_split}
use Rattle.std.proofs.lemmas.Nat.Bits.{bit_at_cat_low, bit_at_cat_high, shr_and_one}
use Rattle.std.proofs.Math.Pow.{pow_mono, pow-lt}
use Rattle.std.proofs.Math.Nat.{div-eq_of_lt, mod-eq_of_lt}
use Rattle.ap_sharing.specs.VarSet.{has, empty, just, union, both, without, meets, within}

pub union_words : (a b c d : ℕ) → b < 2 ^ 128 → d < 2 ^ 128 → union (a * 2 ^ 128 + b) (c * 2 ^ 128 + d) ≡ bit_or a c * 2 ^ 128 + bit_or b d
unfolding union
union_words a b c d h k = or_block 128 a c b d h k

pub without_words : (a b c d : ℕ) → b < 2 ^ 128 → d < 2 ^ 128 → without (a * 2 ^ 128 + b) (c * 2 ^ 128 + d) ≡ bit_xor a (bit_and a c) * 2 ^ 128 + bit_xor b (bit_and b d)
unfolding without
without_words a b c d h k =
    let l : bit_and b d < 2 ^ 128 = omega (arith, and_le_l b d) in
    ap (bit_xor (a * 2 ^ 128 + b)) (and_block 128 a c b d h k) ∙ xor_block 128 a (bit_and a c) b (bit_and b d) h l

pub both_words : (a b c d : ℕ) → b < 2 ^ 128 → d < 2 ^ 128 → both (a * 2 ^ 128 + b) (c * 2 ^ 128 + d) ≡ bit_and a c * 2 ^ 128 + bit_and b d
unfolding both
both_words a b c d h k = and_block 128 a c b d h k

pub has_low : (a b x : ℕ) → b < 2 ^ 128 → x < 128 → has (a * 2 ^ 128 + b) x ≡ nat_eq (bit_and (b / 2 ^ x) 1) 1
unfolding has
has_low a b x h k = ap (λ n. nat_eq n 1) (bit_at_cat_low a 128 b x k ∙ sym (shr_and_one b x))

pub has_high : (a b x : ℕ) → b < 2 ^ 128 → 128 ≤ x → has (a * 2 ^ 128 + b) x ≡ nat_eq (bit_and (a / 2 ^ (x - 128)) 1) 1
unfolding has
has_high a b x h k = ap (λ n. nat_eq n 1) (bit_at_cat_high a 128 b x h k ∙ sym (shr_and_one a (x - 128)))

-- no number from 256 on is in a set
pub has_past : (a b x : ℕ) → a < 2 ^ 128 → b < 2 ^ 128 → 256 ≤ x → has (a * 2 ^ 128 + b) x ≡ false
unfolding has
has_past a b x g h k =
    let m : 128 ≤ x - 128 = omega arith in
    let l : 2 ^ 128 ≤ 2 ^ (x - 128) = pow_mono m in
    let d : a < 2 ^ (x - 128) = omega (arith, l) in
    let e : 128 ≤ x = omega arith in
    ap (λ n. nat_eq n 1) (bit_at_cat_high a 128 b x h e ∙ ap (λ n. n % 2) (div-eq_of_lt d))

small : (x : ℕ) → x < 128 → 1 * 2 ^ x % 2 ^ 128 ≡ 2 ^ x
small x h =
    let l : 2 ^ x < 2 ^ 128 = pow-lt h in
    let m : 1 * 2 ^ x < 2 ^ 128 = omega arith in
    mod-eq_of_lt m ∙ (omega arith)

pub just_low : (x : ℕ) → x < 128 → 0 * 2 ^ 128 + 1 * 2 ^ x % 2 ^ 128 ≡ just x
unfolding just
just_low x h = omega (arith, small x h)

pub just_high : (x : ℕ) → 128 ≤ x → x < 256 → 1 * 2 ^ (x - 128) % 2 ^ 128 * 2 ^ 128 + 0 ≡ just x
unfolding just
just_high x h k =
    let l : x - 128 < 128 = omega arith in
    let e : (x - 128) + 128 ≡ x = omega arith in
    add-zero (1 * 2 ^ (x - 128) % 2 ^ 128 * 2 ^ 128) ∙ ap (λ n. n * 2 ^ 128) (small (x - 128) l) ∙ sym (pow-add 2 (x - 128) 128) ∙ ap (λ n. 2 ^ n) e

pub both_lt : (a b : ℕ) → a < 2 ^ 128 → bit_and a b < 2 ^ 128
both_lt a b h = omega (arith, and_le_l a b)

pub without_lt : (a b : ℕ) → a < 2 ^ 128 → bit_xor a (bit_and a b) < 2 ^ 128
without_lt a b h = xor_lt 128 a (bit_and a b) h (both_lt a b h)

pub meets_test : (s t : ℕ) → meets s t ≡ not (nat_eq (both s t) empty)
unfolding meets both empty
meets_test s t = refl

pub within_test : (s t : ℕ) → within s t ≡ nat_eq (both s t) s
unfolding within both
within_test s t = refl

pub ruleset words = (both_words, meets_test, within_test, union_words, without_words, has_low, has_high, or_lt, xor_lt, and_le_l)
