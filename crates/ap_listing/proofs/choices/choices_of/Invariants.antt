use Rattle.std.proofs.Common.{take}
use Rattle.ap_listing.specs.Grouped.{IsGrouped}
use Rattle.ap_listing.proofs.choices.choices_of.Given as goal

abbrev pub invariant-loop-clause : goal.invariant-loop-clause
invariant-loop-clause l = IsGrouped l.code (take l.clause-index l.places) l.choices
