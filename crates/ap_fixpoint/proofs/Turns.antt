-- The walks over goals, parts and clauses, one after another.
use Rattle.std.proofs.Common.{◌≡◌, ℕ, ◌+◌, ◌<◌, List, ◌∷◌, length, drop, get_or, map, ap, sym, ◌∙◌}
use Rattle.std.proofs.lemmas.List.{drop_more}
use Rattle.ap_term.specs.declared.clauses.Part.{Part}
use Rattle.ap_term.specs.GoalView.{part_of}

pub parts-drop_more : (ps : List Part) (i : ℕ) (p : Part) → i < length ps → p ≡ get_or ps i p → map part_of (drop i ps) ≡ part_of p ∷ map part_of (drop (i + 1) ps)
parts-drop_more ps i p h e = ap (map part_of) (drop_more ps i p h) ∙ ap (λ q. part_of q ∷ map part_of (drop (i + 1) ps)) (sym e)
