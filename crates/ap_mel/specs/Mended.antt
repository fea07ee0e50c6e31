-- One pass: each group gets the checks that its state no longer gives, or is given up.
use Rattle.std.specs.Prelude.{Bool, true, false, not, ◌&&◌, ◌||◌, if◌then◌else◌, List, [], ◌∷◌, ◌++◌}
use Rattle.ap_term.specs.declared.clauses.Check.{Check}
use Rattle.ap_term.specs.Tree.{Trees}
use Rattle.ap_term.specs.Goals.{Part, call, group, calls, Clause, Program}
use Rattle.ap_absunify.specs.declared.states.State.{State}
use Rattle.ap_patterns.specs.Given.{Patterns, is_analysed}
use Rattle.ap_conditions.specs.FullCondition.{full_condition}
use Rattle.ap_conditions.specs.Simplified.{simplified}
use Rattle.ap_conditions.specs.declared.simplifications.Simplified.{Simplified}
use Rattle.ap_conditions.specs.declared.simplifications.Simplified.TheVariants.{Keep, NeverTrue}
use Rattle.ap_udg.specs.Completed.{missing, start, behind}
use Rattle.ap_udg.specs.Annotated.{has_groups}
use Rattle.ap_mel.specs.declared.annotations.Kind.{Kind}
use Rattle.ap_mel.specs.declared.annotations.Kind.TheVariants as kind

abbrev pub is_never_true : Simplified → Bool
is_never_true NeverTrue = true
is_never_true (Keep cs) = false

abbrev pub is_none : List Check → Bool
is_none [] = true
is_none (c ∷ cs) = false

-- Whether a group becomes a sequence: its full condition holds nowhere, or it may have no check and wants one.
abbrev pub is_given_up : Bool → State → List Check → Trees → Bool
is_given_up bare s cs gs = is_never_true (simplified (full_condition gs) s) || (bare && not (is_none (missing s cs gs)))

abbrev pub mended : Bool → State → Part → List Part
mended bare s (call g) = call g ∷ []
mended bare s (group cs gs) = if is_given_up bare s cs gs then calls gs else group (cs ++ missing s cs gs) gs ∷ []

abbrev pub mended_body : Bool → Bool → Patterns → State → List Part → List Part
mended_body bare analysed t s [] = []
mended_body bare analysed t s (p ∷ ps) = mended bare s p ++ mended_body bare analysed t (behind analysed t s p) ps

-- the groups that udg makes have no checks; those that were written by hand may
abbrev pub is_bare : Kind → Clause → Bool
is_bare kind.Mel c = false
is_bare kind.Udg c = not (has_groups c)
is_bare kind.None c = false

-- a clause of the annotated program, of one that was read
abbrev pub mended_clause : Kind → Patterns → Clause → Clause → Clause
mended_clause k t c d = record { head = d.head; body = mended_body (is_bare k c) (is_analysed d) t (start t d) d.body; vars = d.vars; line = d.line }

abbrev pub mended_program : Kind → Patterns → Program → Program → Program
mended_program k t [] ds = []
mended_program k t (c ∷ cs) [] = []
mended_program k t (c ∷ cs) (d ∷ ds) = mended_clause k t c d ∷ mended_program k t cs ds

-- ---- where nothing changes

abbrev pub is_settled : Bool → State → Part → Bool
is_settled bare s (call g) = true
is_settled bare s (group cs gs) = not (is_given_up bare s cs gs) && is_none (missing s cs gs)

abbrev pub is_body_settled : Bool → Bool → Patterns → State → List Part → Bool
is_body_settled bare analysed t s [] = true
is_body_settled bare analysed t s (p ∷ ps) = is_settled bare s p && is_body_settled bare analysed t (behind analysed t s p) ps

abbrev pub is_clause_settled : Kind → Patterns → Clause → Clause → Bool
is_clause_settled k t c d = is_body_settled (is_bare k c) (is_analysed d) t (start t d) d.body

abbrev pub is_program_settled : Kind → Patterns → Program → Program → Bool
is_program_settled k t [] ds = true
is_program_settled k t (c ∷ cs) [] = true
is_program_settled k t (c ∷ cs) (d ∷ ds) = is_clause_settled k t c d && is_program_settled k t cs ds
