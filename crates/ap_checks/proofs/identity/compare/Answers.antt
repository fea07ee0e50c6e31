use Rattle.std.proofs.Common.{ap, ◌∙◌}
use Rattle.ap_cells.specs.Trees.{trees}
use Rattle.ap_cells.specs.Tops.{topped}
use Rattle.ap_checks.proofs.Shared.{Compared-opened}
use Rattle.ap_checks.proofs.identity.compare.Goals as goal

pub returns-else-branch-clause-looked : goal.returns-else-branch-clause-looked
returns-else-branch-clause-looked c =
    let ts = trees c.args.cells.now.cells in
    let s = c.in-Arguments.ensures in
    let j = c.in_ok-is_joined-in-Arguments.ensures in
    Compared-opened ts c.args.classes.now c.is_joined.new.classes c.args.left c.args.right s.0 c.in-Arguments.p c.in-Arguments.q c.in-Arguments.count
    (c.top.ensures.tree ∙ ap (topped ts) s.1.0) (c.top-2.ensures.tree ∙ ap (topped ts) s.1.1) j.older j.no_more
