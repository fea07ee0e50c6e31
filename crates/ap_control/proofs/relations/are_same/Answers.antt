use Rattle.std.proofs.Common.{◌≡◌}
use Rattle.ap_term.specs.Identical.{identical}
use Rattle.ap_cells.specs.Trees.{tree_at, trees}
use Rattle.ap_term.proofs.Sameness.{identical-is}
use Rattle.ap_control.proofs.Compared.{same-test}
use Rattle.ap_control.proofs.relations.are_same.Goals as goal

pub returns : goal.returns
returns c =
    let t = tree_at (trees c.args.cells.now.cells) c.args.a in
    let u = tree_at (trees c.args.cells.now.cells) c.args.b in
    same-test c.in_ok-same.same (identical t u) (t ≡ u) c.in_ok-same.ensures (identical-is t u)
