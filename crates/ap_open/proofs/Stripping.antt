-- Programs that are the same without their groups.
use Rattle.std.proofs.Common.{◌≡◌, ℕ, List, [], ◌∷◌, ◌++◌, refl, ap, ap₂, sym, ◌∙◌, subst}
use Rattle.std.specs.List.{flat_map}
use Rattle.std.proofs.lemmas.List.{map-append}
use Rattle.ap_term.specs.Tree.{more, append_trees}
use Rattle.ap_term.specs.Goals.{Part, call, group, Program, Query, joined, plain_goals}
use Rattle.ap_term.proofs.GoalLists.{plain_goals-calls_append}
use Rattle.ap_cge.specs.Stripped.{stripped_part, stripped_clause, stripped}
use Rattle.ap_graft.specs.Uncalled.{AreOthers, NeverCalls}
use Rattle.ap_open.specs.Reading.{AreRead}

stripped_joined : (p : Program) (q : Query) → stripped (joined p q) ≡ stripped p ++ stripped_clause q.question ∷ stripped q.lifted
stripped_joined p q = map-append stripped_clause p (q.question ∷ q.lifted)

pub whole : (program a : Program) (query q : Query) → AreRead program query a q → stripped (joined a q) ≡ stripped (joined program query)
whole program a query q h =
    stripped_joined a q ∙ ap₂ (λ x y. x ++ y) h.same_program (ap₂ (λ x y. x ∷ y) h.same_question h.same_lifted) ∙ sym (stripped_joined program query)

-- ---- goals

pub plain_stripped : (ps : List Part) → plain_goals (flat_map stripped_part ps) ≡ plain_goals ps
plain_stripped [] = refl
plain_stripped (call t ∷ ps) = ap (more t) (plain_stripped ps)
plain_stripped (group cs ts ∷ ps) = plain_goals-calls_append ts (flat_map stripped_part ps) ∙ ap (append_trees ts) (plain_stripped ps)

to_stripped : (name : ℕ) (p : Program) → NeverCalls name p → NeverCalls name (stripped p)
to_stripped name [] h = tt
to_stripped name (c ∷ p) h = (subst (AreOthers name) (sym (plain_stripped c.body)) h.0, to_stripped name p h.1)

from_stripped : (name : ℕ) (p : Program) → NeverCalls name (stripped p) → NeverCalls name p
from_stripped name [] h = tt
from_stripped name (c ∷ p) h = (subst (AreOthers name) (plain_stripped c.body) h.0, from_stripped name p h.1)

pub never_calls : (program a : Program) (query q : Query) (name : ℕ) → AreRead program query a q → NeverCalls name (joined program query) → NeverCalls name (joined a q)
never_calls program a query q name is h = from_stripped name (joined a q) (subst (NeverCalls name) (sym (whole program a query q is)) (to_stripped name (joined program query) h))
