use Rattle.std.proofs.Common.{Some}
use Rattle.ap_index.specs.Index.{named_from}
use Rattle.ap_index.proofs.pairs.pairs_of.Goals as goal

pub returns-then-argument-eq0 : goal.returns-then-argument-eq0
returns-then-argument-eq0 c = c.none.ensures c.args.code.now (named_from c.args.code.now (Some c.args.start))

pub returns-then-not-is_behind_try : goal.returns-then-not-is_behind_try
returns-then-not-is_behind_try c = c.none-then-not-is_behind_try.ensures c.args.code.now (named_from c.args.code.now (Some c.args.start))

pub returns : goal.returns
returns c = c.none-2.ensures c.args.code.now (named_from c.args.code.now (Some c.args.start))
