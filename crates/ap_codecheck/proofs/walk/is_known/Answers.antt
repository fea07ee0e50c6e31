use Rattle.std.proofs.Common.{length, refl}
use Rattle.std.proofs.lemmas.Option.{slice_get_read}
use Rattle.ap_codecheck.proofs.walk.is_known.Goals as goal

pub returns-then-is_same-clause-known : goal.returns-then-is_same-clause-known
returns-then-is_same-clause-known c = λ _. record {
  number = c.loop-way.way-index;
  way = c.way-item.result;
  held = slice_get_read c.args.ways.now (length c.args.ways.now) c.loop-way.way-index c.way-item.result refl c.loop-way-test.true c.way-item.is;
  place = c.if-way-place.true;
  shape = c.is_same.ensures.same c.if-is_same.true;
}
