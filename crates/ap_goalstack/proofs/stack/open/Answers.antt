use Rattle.std.proofs.Common.{arith}
use Rattle.ap_goalstack.proofs.stack.open.Goals as goal

pub thief-requires : goal.thief-requires
thief-requires g c = c.requires.forks (omega (arith, c.loop-test.true))
