-- The rows, computed.
use Rattle.std.proofs.Common.{refl}
use Rattle.ap_core.specs.Rows.{RowsLaw}

pub computed : RowsLaw
computed = (refl, refl, refl, refl, refl, refl, refl)
