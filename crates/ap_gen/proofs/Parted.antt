-- A number behind numbers that are parted by commas.
use Rattle.std.proofs.Common.{◌≡◌, ◌∙◌, ◌<◌, ◌++◌, ◌+◌, ℕ, zero, suc, List, [], ◌∷◌, ap, ap₂, sym, refl, arith}
use Rattle.std.specs.Prelude.{decimal}
use Rattle.std.proofs.lemmas.List.{append_assoc, append-nil}
use Rattle.ap_gen.specs.Generator.{behind_commas, element, elements, parted}

behind-more : (n : ℕ) (ns : List ℕ) → behind_commas (ns ++ n ∷ []) ≡ behind_commas ns ++ 44 ∷ decimal n
behind-more n [] = ap (λ t. 44 ∷ t) (append-nil (decimal n))
behind-more n (m ∷ ms) = ap (λ t. 44 ∷ decimal m ++ t) (behind-more n ms) ∙ ap (λ t. 44 ∷ t) (sym (append_assoc (decimal m) (behind_commas ms) (44 ∷ decimal n)))

-- what goes before a number that isn't the first
abbrev pub lead : List ℕ → List ℕ
lead [] = []
lead (m ∷ ms) = 44 ∷ []

behind-comma : (t : List ℕ) → 44 ∷ t ≡ (44 ∷ []) ++ t
behind-comma t = refl

pub one-more : (n : ℕ) → n + 1 ≡ suc n
one-more n = omega arith

pub parted-more : (n : ℕ) (ns : List ℕ) → parted (ns ++ n ∷ []) ≡ parted ns ++ (lead ns ++ decimal n)
parted-more n [] = append-nil (decimal n)
parted-more n (m ∷ ms) = ap (λ t. decimal m ++ t) (behind-more n ms) ∙ sym (append_assoc (decimal m) (behind_commas ms) (44 ∷ decimal n)) ∙ ap (λ t. (decimal m ++ behind_commas ms) ++ t) (behind-comma (decimal n))

pub lead-first : (seed n : ℕ) → n ≡ 0 → lead (elements seed n) ≡ []
lead-first seed n e = rw e refl

lead-behind : (n : ℕ) (ns : List ℕ) → lead (ns ++ n ∷ []) ≡ 44 ∷ []
lead-behind n [] = refl
lead-behind n (m ∷ ms) = refl

pub lead-next : (seed n : ℕ) → 0 < n → lead (elements seed n) ≡ 44 ∷ []
lead-next seed zero lt = absurd (omega arith)
lead-next seed (suc n) lt = lead-behind (element seed (suc n)) (elements seed n)

-- a text that ends with numbers, and one more behind them
pub text-more : (start out led digits : List ℕ) (ns : List ℕ) (n : ℕ) → out ≡ start ++ parted ns → led ≡ out ++ lead ns → digits ≡ decimal n
    → led ++ digits ≡ start ++ parted (ns ++ n ∷ [])
text-more start out led digits ns n o l d =
    ap₂ (λ a b. a ++ b) l d ∙ ap (λ a. (a ++ lead ns) ++ decimal n) o ∙ append_assoc (start ++ parted ns) (lead ns) (decimal n)
    ∙ append_assoc start (parted ns) (lead ns ++ decimal n) ∙ ap (λ t. start ++ t) (sym (parted-more n ns))
