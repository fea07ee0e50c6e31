use Rattle.std.specs.List.{flat_map}
use Rattle.std.proofs.Common.{[]}
use Rattle.ap_sharing.specs.VarSet.{union}
use Rattle.ap_sharing.specs.Sets.{with_each, pairs}
use Rattle.ap_sharing.proofs.Lists.{Elem-listed, listed-Elem, Elem-pairs, pairs-back, ascending-join, ascending-none}
use Rattle.ap_sharing.proofs.laws.pairs_law.Goals as goal

pub returns : goal.returns
returns c = record {
  ascending = λ ss ts. ascending-join [] (flat_map (λ s. with_each s ts) ss) ascending-none;
  has_all = λ ss ts s t h k. listed-Elem (union s t) (pairs ss ts) (Elem-pairs ss ts s t (Elem-listed s ss h) (Elem-listed t ts k));
  no_others = λ ss ts r h. let i = pairs-back ss ts r (Elem-listed r (pairs ss ts) h) in (i.0, i.1, listed-Elem i.0 ss i.2, listed-Elem i.1 ts i.3, i.4);
}
