-- Groups all of whose goals have an answer by a table.
use Rattle.std.specs.Prelude.{Bool, true, false, ◌&&◌, List}
use Rattle.std.specs.List.{list_all}
use Rattle.ap_term.specs.Tree.{Tree, Trees, none, more}
use Rattle.ap_term.specs.Goals.{Part, call, group, Program}
use Rattle.ap_absunify.specs.declared.states.State.{State}
use Rattle.ap_absunify.specs.declared.states.State.TheVariants.{Unreachable, Reachable}
use Rattle.ap_patterns.specs.Table.{predicate_of}
use Rattle.ap_patterns.specs.Given.{Patterns, success_at}

abbrev pub is_reached : State → Bool
is_reached Unreachable = false
is_reached (Reachable sh fr) = true

abbrev pub is_answered : Patterns → Tree → Bool
is_answered t g = is_reached (success_at t (predicate_of g))

abbrev pub are_answered : Patterns → Trees → Bool
are_answered t none = true
are_answered t (more g gs) = is_answered t g && are_answered t gs

abbrev pub is_part_answered : Patterns → Part → Bool
is_part_answered t (call g) = true
is_part_answered t (group cs gs) = are_answered t gs

abbrev pub is_body_answered : Patterns → List Part → Bool
is_body_answered t ps = list_all (is_part_answered t) ps

abbrev pub all_answered : Patterns → Program → Bool
all_answered t A = list_all (λ c. is_body_answered t c.body) A
