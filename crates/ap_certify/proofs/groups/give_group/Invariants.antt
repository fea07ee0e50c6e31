use Rattle.std.proofs.Common.{◌≡◌, ◌||◌, true, take}
use Rattle.std.specs.List.{list_all}
use Rattle.ap_certify.specs.Written.{is_written}
use Rattle.ap_certify.specs.Sights.{gives}
use Rattle.ap_certify.proofs.groups.give_group.Given as goal

abbrev pub invariant-loop-check : goal.invariant-loop-check
invariant-loop-check l = list_all (λ c. is_written c l.checks || gives l.s c) (take l.check-index l.check-items) ≡ true
