use Rattle.std.proofs.Common.{refl}
use Rattle.ap_needs.proofs.Behind.{nothing, nothing-begins, nothing-alone, nothing-widths}
use Rattle.ap_needs.proofs.widths.widths_of.Goals as goal

pub returns : goal.returns
returns c = c.widths_behind.ensures nothing (nothing-begins c.args.code.now) nothing-alone (nothing-widths (record { x = 1; y = 1 })) refl refl
