-- A store since a mark.
use Rattle.std.proofs.Common.{◌≡◌, ℕ, ◌≤◌, length, arith}
use Rattle.ap_cells.specs.Store.{Store, undone, IsMark, IsTrail, Keeps}
use Rattle.ap_control.proofs.Marks.{mark-whole}

-- no cells were lost since a mark
pub no-fewer : (v w : Store) (n t : ℕ) → IsTrail v.cells v.trail → IsMark v.cells v.trail n t → undone v n t ≡ v.cells → Keeps v w → length v.cells ≤ length w.cells
no-fewer v w n t trail mark e k =
    let whole = mark-whole v n t trail mark e in
    let f : n ≤ length w.cells = (k.stays n t mark).fewer in
    omega (arith, whole.0)
