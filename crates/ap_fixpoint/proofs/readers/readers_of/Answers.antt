use Rattle.std.proofs.Common.{arith}
use Rattle.ap_fixpoint.specs.Numbered.{numbers_of}
use Rattle.ap_fixpoint.proofs.Indexing.{readers-done}
use Rattle.ap_fixpoint.proofs.readers.readers_of.Goals as goal

pub returns : goal.returns
returns c x =
    readers-done (numbers_of c.loop-i.readers) c.as_slice-clauses.result.now c.args.program.now c.loop-i.i x c.as_slice-clauses.ensures.clauses (omega arith) (c.loop-i.invariant x)
