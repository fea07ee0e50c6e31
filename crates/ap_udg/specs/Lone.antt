-- Bodies with nothing to group.
use Rattle.std.specs.Prelude.{Bool, true, false, not, ◌&&◌, List, [], ◌∷◌}
use Rattle.ap_term.specs.Goals.{Part, call, group}
use Rattle.ap_udg.specs.Runs.{is_user_call}

abbrev pub is_call : Part → Bool
is_call (call g) = true
is_call (group cs gs) = false

-- no group, and of two goals in a row one is built in; whether the goal before is none that is built in is told
abbrev pub is_lone_behind : Bool → List Part → Bool
is_lone_behind user [] = true
is_lone_behind user (p ∷ ps) = is_call p && (not (user && is_user_call p) && is_lone_behind (is_user_call p) ps)

abbrev pub is_lone_body : List Part → Bool
is_lone_body ps = is_lone_behind false ps
