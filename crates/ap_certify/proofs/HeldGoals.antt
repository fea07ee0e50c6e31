-- What a group of goals leaves out.
use Rattle.std.proofs.Common.{◌≡◌, ℕ, zero, suc, ◌<◌, inl, inr, Bool, true, false, ◌||◌, IsTrue, List, [], ◌∷◌, length, get_or, refl, ap, sym, ◌∙◌, subst, arith}
use Rattle.std.specs.List.{list_all}
use Rattle.std.proofs.lemmas.Bool.{and_parts, or_parts}
use Rattle.ap_term.specs.declared.clauses.Check.{Check}
use Rattle.ap_term.specs.Tree.{Trees}
use Rattle.ap_term.specs.WellFormed.{numbered_all}
use Rattle.ap_conditions.specs.FullCondition.{full_condition}
use Rattle.ap_conditions.specs.Laws.{IsIn}
use Rattle.ap_conditions.proofs.Listed.{full-listed, listed-full}
use Rattle.ap_certify.specs.declared.sights.Sight.{Sight}
use Rattle.ap_certify.specs.Written.{is_written}
use Rattle.ap_certify.specs.Sights.{gives}
use Rattle.ap_certify.specs.Held.{GivesMissing}
use Rattle.ap_certify.specs.Refused.{IsLeftOut}

each_passes : (p : Check → Bool) (cs : List Check) → list_all p cs ≡ true → (c : Check) → IsIn c cs → p c ≡ true
each_passes p [] h c i = absurd i
each_passes p (k ∷ cs) h c (inl e) = ap p e ∙ (and_parts (p k) (list_all p cs) h).0
each_passes p (k ∷ cs) h c (inr i) = each_passes p cs (and_parts (p k) (list_all p cs) h).1 c i

pub group-given : (s : Sight) (cs : List Check) (gs : Trees) → IsTrue (numbered_all 255 gs) → list_all (λ c. is_written c cs || gives s c) (full_condition gs) ≡ true → GivesMissing s cs gs
group-given s cs gs w h c i e =
    ap (λ b. b || gives s c) (sym e) ∙ each_passes (λ k. is_written k cs || gives s k) (full_condition gs) h c (full-listed gs c w i)

-- the check at an index of the full condition is one of it
listed : (cs : List Check) (i : ℕ) (d : Check) → i < length cs → IsIn (get_or cs i d) cs
listed [] i d l = absurd (omega arith)
listed (c ∷ cs) zero d l = inl refl
listed (c ∷ cs) (suc i) d l = inr (listed cs i d (omega arith))

pub left-out : (s : Sight) (cs : List Check) (gs : Trees) (items : List Check) (i : ℕ) (d : Check) → items ≡ full_condition gs → i < length items
    → (is_written (get_or items i d) cs || gives s (get_or items i d)) ≡ false → IsLeftOut s cs gs (get_or items i d)
left-out s cs gs items i d e l h =
    let c = get_or items i d in
    let r = or_parts (is_written c cs) (gives s c) h in
    record { full = listed-full gs c (subst (IsIn c) e (listed items i d l)); unwritten = r.0; ungiven = r.1 }
