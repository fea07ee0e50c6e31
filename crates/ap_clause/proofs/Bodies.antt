-- Terms that no connective and no neck parts.
use Rattle.std.proofs.Common.{◌≡◌, ℕ, false, cond, List, [], ◌∷◌, Some, None, length, refl, ap}
use Rattle.std.proofs.lemmas.Bool.{ne_eqb}
use Rattle.ap_term.specs.declared.fixed.TheConstants.{NECK}
use Rattle.ap_term.specs.declared.terms.Term.{Term}
use Rattle.ap_term.specs.Tree.{Trees, none, more, node, count_trees}
use Rattle.ap_term.specs.TermView.{trees_of}
use Rattle.ap_lifting.specs.Body.{goal}
use Rattle.ap_clause.specs.declared.form.Connective.TheVariants.{Other}
use Rattle.ap_clause.specs.Arity.{is_pair}
use Rattle.ap_clause.specs.Clause.{connective_at, conditions_in, joined_by, body_in, clause_halves}

pub body_in-other : (f : ℕ) (ts : Trees) → connective_at f ≡ Other → body_in (node f ts) ≡ goal (node f ts)
body_in-other f none e = refl
body_in-other f (more a none) e = refl
body_in-other f (more a (more b none)) e = ap (λ c. joined_by c (node f (more a (more b none))) (conditions_in a) (body_in a) (body_in b)) e
body_in-other f (more a (more b (more c ts))) e = refl

pub body_in-unpaired : (f : ℕ) (ts : Trees) → is_pair ts ≡ false → body_in (node f ts) ≡ goal (node f ts)
body_in-unpaired f none e = refl
body_in-unpaired f (more a none) e = refl
body_in-unpaired f (more a (more b none)) e = absurd (clash e)
  where
    clash : is_pair (more a (more b none)) ≡ false → ⊥
    clash k = cc
body_in-unpaired f (more a (more b (more c ts))) e = refl

pub clause_halves-other : (f : ℕ) (ts : Trees) → (f ≡ NECK → ⊥) → clause_halves (node f ts) ≡ (node f ts, None)
clause_halves-other f none e = refl
clause_halves-other f (more a none) e = refl
clause_halves-other f (more a (more b none)) e = ap (λ c. cond c (a, Some (body_in b)) (node f (more a (more b none)), None)) (ne_eqb f NECK e)
clause_halves-other f (more a (more b (more c ts))) e = refl

pub clause_halves-unpaired : (f : ℕ) (ts : Trees) → is_pair ts ≡ false → clause_halves (node f ts) ≡ (node f ts, None)
clause_halves-unpaired f none e = refl
clause_halves-unpaired f (more a none) e = refl
clause_halves-unpaired f (more a (more b none)) e = absurd (clash e)
  where
    clash : is_pair (more a (more b none)) ≡ false → ⊥
    clash k = cc
clause_halves-unpaired f (more a (more b (more c ts))) e = refl

pub pair_other : (ts : List Term) → (length ts ≡ 2 → ⊥) → is_pair (trees_of ts) ≡ false
pair_other [] h = refl
pair_other (t ∷ []) h = refl
pair_other (t ∷ (u ∷ [])) h = absurd (h refl)
pair_other (t ∷ (u ∷ (v ∷ ts))) h = refl

pub unpaired : (ts : Trees) → (count_trees ts ≡ 2 → ⊥) → is_pair ts ≡ false
unpaired none h = refl
unpaired (more a none) h = refl
unpaired (more a (more b none)) h = absurd (h refl)
unpaired (more a (more b (more c ts))) h = refl

pub ruleset bodies = (body_in-other, body_in-unpaired, clause_halves-other, clause_halves-unpaired, pair_other, unpaired)
