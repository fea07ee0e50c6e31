-- What is left of clauses for keys of two arguments.
use Rattle.std.proofs.Common.{◌≡◌, ℕ, ◌<◌, Bool, true, false, ◌==◌, List, [], ◌∷◌, length, Option, Some, None, inl, inr, refl, ap, ap₂, sym, ◌∙◌, subst, eq-eqb}
use Rattle.std.specs.Prelude.{nat_eq, if◌then◌else◌}
use Rattle.std.specs.Option.{option_eq}
use Rattle.std.specs.List.{AllByRecursion}
use Rattle.std.proofs.lemmas.Bool.{false≢true, eqb-true}
use Rattle.ap_instr.specs.Code.{Compiled}
use Rattle.ap_index.specs.declared.key.Key.{Key}
use Rattle.ap_index.specs.declared.row.Pair.{Pair}
use Rattle.ap_index.specs.declared.row.Pair.TheVariants.{Never, Only, Open}
use Rattle.ap_index.specs.Keys.{same_key}
use Rattle.ap_index.specs.Heads.{AreNeeded}
use Rattle.ap_index.specs.Hashing.{pair_slot}
use Rattle.ap_index.specs.Pairs.{AsksOtherOf, AsksOtherPair, IsPairOf, pair_before}
use Rattle.ap_index.proofs.Same.{true-same}

-- options that pass the test are the same
pub same-option : (a b : Option ℕ) → option_eq nat_eq a b ≡ true → a ≡ b
same-option None None e = refl
same-option None (Some q) e = absurd (let z : ⊥ = cc in z)
same-option (Some p) None e = absurd (let z : ⊥ = cc in z)
same-option (Some p) (Some q) e = ap Some (eqb-true p q e)

-- one more clause, which asks for two keys
module _ (code : Compiled) (argument l : ℕ) (one two : Key) (own : l < length code.instructions) (first : AreNeeded code l (record { argument = 1; key = one } ∷ [])) (second : AreNeeded code l (record { argument = argument; key = two } ∷ [])) where
  -- keys of another slot are other keys
  apart : (j k : Key) (slots : ℕ) (a b : Bool) → same_key one j ≡ a → same_key two k ≡ b → (pair_slot j k slots == pair_slot one two slots) ≡ false → AsksOtherPair code argument j k l
  apart j k slots false b e f s = inl (record { own = own; asked = one; needed = first; other = e })
  apart j k slots true false e f s = inr (record { own = own; asked = two; needed = second; other = f })
  apart j k slots true true e f s =
      absurd (false≢true (sym s ∙ eq-eqb (pair_slot j k slots) (pair_slot one two slots) (ap₂ (λ p q. pair_slot p q slots) (sym (true-same one j e)) (sym (true-same two k f)))))

  here : (j k : Key) (ls : List ℕ) (p : Pair) → IsPairOf code argument j k ls p → IsPairOf code argument j k (l ∷ ls) (pair_before l p)
  here j k ls Never h = record { before = []; behind = ls; are = refl; others_before = tt; others_behind = h }
  here j k ls (Only at) h = tt
  here j k ls Open h = tt

  more : (j k : Key) (ls : List ℕ) (p : Pair) → AsksOtherPair code argument j k l → IsPairOf code argument j k ls p → IsPairOf code argument j k (l ∷ ls) p
  more j k ls Never other h = (other, h)
  more j k ls (Only at) other h = record { before = l ∷ h.before; behind = h.behind; are = ap (λ ks. l ∷ ks) h.are; others_before = (other, h.others_before); others_behind = h.others_behind }
  more j k ls Open other h = tt

  pub pair-more : (j k : Key) (ls : List ℕ) (p new : Pair) (slots : ℕ) → new ≡ (if pair_slot j k slots == pair_slot one two slots then pair_before l p else p)
      → IsPairOf code argument j k ls p → IsPairOf code argument j k (l ∷ ls) new
  pair-more j k ls p new slots e h = subst (IsPairOf code argument j k (l ∷ ls)) (sym e) (go (pair_slot j k slots == pair_slot one two slots) refl)
    where
      go : (b : Bool) → (pair_slot j k slots == pair_slot one two slots) ≡ b → IsPairOf code argument j k (l ∷ ls) (if b then pair_before l p else p)
      go true s = here j k ls p h
      go false s = more j k ls p (apart j k slots (same_key one j) (same_key two k) refl refl s) h
