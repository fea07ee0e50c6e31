use Rattle.ap_reader.specs.Depth.{depth}
use Rattle.ap_reader.proofs.Depths.{greatest-is}
use Rattle.ap_reader.proofs.depth.greatest.Goals as goal

pub returns : goal.returns
returns c = λ ys x e h.
    let a = c.above.ensures (depth x) h in
    let g = greatest-is c.args.items ys x e in
    cc
