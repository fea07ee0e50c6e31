-- Programs with nothing to group.
pub use Rattle.ap_udg.specs.Lone.{is_call, is_lone_behind, is_lone_body}
use Rattle.std.specs.Prelude.{Bool, not}
use Rattle.std.specs.List.{list_all}
use Rattle.ap_term.specs.Goals.{has_groups, Program}

abbrev pub is_lone : Program → Bool
is_lone p = list_all (λ c. is_lone_body c.body) p

-- no clause has a group
abbrev pub is_plain : Program → Bool
is_plain p = list_all (λ c. not (has_groups c)) p
