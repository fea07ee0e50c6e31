-- Parts with the goals of other ones.
use Rattle.std.specs.Prelude.{◌≡◌, ℕ, ◌≤◌, List, [], ◌∷◌, ◌++◌, length, drop}
use Rattle.ap_term.specs.declared.terms.Term.{Term}
use Rattle.ap_term.specs.TermView.{trees_of}
use Rattle.ap_term.specs.Goals.{Part, calls, Clause}
use Rattle.ap_cge.specs.Stripped.{stripped_part, stripped_clause}
use Rattle.ap_alike.specs.Alike.{IsAlikePart, IsAlikeClause}

-- behind some parts stands one that is alike to this one, with the first n of some goals
pub record IsFitted (p : Part) (goals : List Term) (n : ℕ) (old new : List Part) : Type 0 where
  pub part : Part
  pub out : new ≡ old ++ part ∷ []
  pub alike : IsAlikePart p part
  pub few : n ≤ length goals
  pub same : stripped_part part ++ calls (trees_of (drop n goals)) ≡ calls (trees_of goals)

-- a clause that is alike to this one, and is the other one without its groups
pub record IsFittedClause (c asked d : Clause) : Type 0 where
  pub alike : IsAlikeClause c d
  pub same : stripped_clause d ≡ asked
