use Rattle.ap_sharing.specs.VarSet.{union}
use Rattle.ap_sharing.specs.Sets.{closure}
use Rattle.ap_sharing.proofs.Lists.{Elem-listed, listed-Elem}
use Rattle.ap_sharing.proofs.Closures.{In-closure, closed, least, ascending-closure}
use Rattle.std.proofs.Common.{◌≡◌, true}
use Rattle.ap_sharing.proofs.laws.closure_law.Goals as goal

pub returns : goal.returns
returns c = record {
  ascending = ascending-closure;
  has_all = λ ss s h. listed-Elem s (closure ss) (In-closure (λ r. s ≡ r) ss (Elem-listed s ss h));
  closed = λ ss s t h k. listed-Elem (union s t) (closure ss) (closed ss s t (Elem-listed s (closure ss) h) (Elem-listed t (closure ss) k));
  least = λ ss p h step s k. least (λ r. p r ≡ true) step ss (λ r e. h r (listed-Elem r ss e)) s (Elem-listed s (closure ss) k);
}
