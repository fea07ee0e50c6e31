-- A number doesn't fall as digits come.
use Rattle.std.proofs.Common.{◌≡◌, ℕ, suc, ◌+◌, ◌-◌, ◌*◌, ◌<◌, ◌≤◌, ◌^◌, List, [], ◌∷◌, length, get_or, ap, ◌∙◌, false, leb, arith}
use Rattle.std.proofs.Math.Nat.{mul-le-mul_right, pow-le-pow_right}
use Rattle.std.proofs.lemmas.Grind.{pow_more}
use Rattle.std.proofs.lemmas.Bool.{lt-leb}
use Rattle.ap_lexer.specs.Lexeme.{number_from}

pub number_from-le : (n : ℕ) (text : List ℕ) → n ≤ number_from n text
number_from-le n [] = omega arith
number_from-le n (b ∷ text) = omega (arith, number_from-le (10 * n + (b - 48)) text)

pub too_large : (limit n : ℕ) (text : List ℕ) → limit < n → leb (number_from n text) limit ≡ false
too_large limit n text h = lt-leb (number_from n text) limit (omega (arith, number_from-le n text))

ten_times : (n p : ℕ) → (n + 23) * (p * 10) ≡ 10 * (n + 23) * p
ten_times n p = grind arith

-- each byte adds at most nine times ten's power, and what bytes have above digits
number_from-few : (n : ℕ) (text : List ℕ) → ((k : ℕ) → get_or text k 0 < 256) → number_from n text + 23 ≤ (n + 23) * 10 ^ length text
number_from-few n [] h = omega arith
number_from-few n (b ∷ text) h =
    let m = 10 * n + (b - 48) in
    let p = 10 ^ length text in
    let first : m + 23 ≤ 10 * (n + 23) = omega (arith, h 0) in
    let longer : length (b ∷ text) ≡ length text + 1 = omega arith in
    let power : (n + 23) * 10 ^ length (b ∷ text) ≡ 10 * (n + 23) * p = ap (λ k. (n + 23) * 10 ^ k) longer ∙ ap (λ q. (n + 23) * q) (pow_more 10 (length text)) ∙ ten_times n p in
    omega (arith, number_from-few m text (λ k. h (suc k)), mul-le-mul_right p first, power)

pub few_fit : (text : List ℕ) → ((k : ℕ) → get_or text k 0 < 256) → length text ≤ 17 → number_from 0 text ≤ 2 ^ 63
few_fit text h l =
    let high : 10 ^ length text ≤ 10 ^ 17 = pow-le-pow_right (omega arith) l in
    omega (arith, number_from-few 0 text h, high)
