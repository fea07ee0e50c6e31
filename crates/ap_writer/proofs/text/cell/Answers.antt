use Rattle.std.proofs.Common.{◌≢◌, length, arith}
use Rattle.ap_writer.proofs.Left.{not_two}
use Rattle.ap_writer.proofs.text.cell.Goals as goal

pub returns-in-len1 : goal.returns-in-len1
returns-in-len1 c =
    let ts = c.as_slice-in-Node.result.now in
    let other : length ts ≢ 2 = omega arith in
    rw (c.in-Node.is, ← c.as_slice-in-Node.ensures) (not_two c.args.atoms.now c.in-Node.name ts other)

pub returns-in-len3-up : goal.returns-in-len3-up
returns-in-len3-up c =
    let ts = c.as_slice-in-Node.result.now in
    let other : length ts ≢ 2 = omega arith in
    rw (c.in-Node.is, ← c.as_slice-in-Node.ensures) (not_two c.args.atoms.now c.in-Node.name ts other)
