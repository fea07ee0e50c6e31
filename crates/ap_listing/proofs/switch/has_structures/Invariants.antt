use Rattle.std.proofs.Common.{◌≡◌, drop}
use Rattle.std.specs.List.{list_any}
use Rattle.ap_listing.specs.Switch.{is_functor}
use Rattle.ap_listing.proofs.switch.has_structures.Given as goal

abbrev pub invariant-loop-group : goal.invariant-loop-group
invariant-loop-group l = list_any (λ g. is_functor l.atoms g.key) (drop l.group-index l.groups) ≡ list_any (λ g. is_functor l.atoms g.key) l.groups
