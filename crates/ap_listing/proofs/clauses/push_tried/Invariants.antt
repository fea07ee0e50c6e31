-- What is put in and what the rest names are all of it.
use Rattle.std.proofs.Common.{◌≡◌, ◌++◌, drop}
use Rattle.ap_instr.specs.StandsFor.{tried}
use Rattle.ap_listing.proofs.clauses.push_tried.Given as goal

abbrev pub invariant-loop-instr : goal.invariant-loop-instr
invariant-loop-instr l = l.places.items ++ tried (drop l.instr-index l.behind) ≡ l.fn.places.items ++ tried l.behind
