use Rattle.std.proofs.Common.{◌≡◌, drop}
use Rattle.ap_listing.specs.Switch.{first_place, is_cell}
use Rattle.ap_listing.proofs.switch_lines.cell_place.Given as goal

abbrev pub invariant-loop-entry : goal.invariant-loop-entry
invariant-loop-entry l = first_place (is_cell l.atoms) (drop l.entry-index l.entries) l.others ≡ first_place (is_cell l.atoms) l.entries l.others
