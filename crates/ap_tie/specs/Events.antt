-- Events of one task, one after another.
use Rattle.std.specs.Prelude.{List, [], ◌∷◌, Option, Some, option_and_then}
use Rattle.ap_core.specs.declared.events.Kind.{Kind}
use Rattle.ap_core.specs.Tasks.{Task}
use Rattle.ap_core.specs.Relation.{Rules, own}

-- none where one of them has no case
abbrev pub own_all : Rules → List Kind → Task → Option Task
own_all p [] t = Some t
own_all p (k ∷ ks) t = option_and_then (own_all p ks) (own p k t)
