use Rattle.std.proofs.Common.{◌≡◌, false, arith}
use Rattle.ap_term.specs.Vars.{occurs}
use Rattle.ap_cells.specs.Trees.{tree_at, trees}
use Rattle.ap_rejoin.proofs.Narrowing.{absent, narrows-bound, bound-same}
use Rattle.ap_rejoin.proofs.meeting.bind_new.Goals as goal

pub bind-requires-clause-absent : goal.bind-requires-clause-absent
bind-requires-clause-absent c = absent c.args.base c.in-Free.variable (tree_at (trees c.args.cells.now.cells) c.args.root) c.requires.fresh (omega (arith, c.if-variable-base.false))

pub returns-clause-narrows : goal.returns-clause-narrows
returns-clause-narrows c =
    let cs = c.args.cells.now.cells in
    let x = c.in-Free.variable in
    let a : occurs x (tree_at (trees cs) c.args.root) ≡ false = absent c.args.base x (tree_at (trees cs) c.args.root) c.requires.fresh (omega (arith, c.if-variable-base.false)) in
    narrows-bound cs c.bind.new.self.cells c.args.place c.args.root x c.requires.inside.0 c.requires.inside.1 c.bind.ensures.len c.in-Free.ensures.tree a c.bind.ensures.trees

pub returns-clause-same : goal.returns-clause-same
returns-clause-same c i l h =
    let cs = c.args.cells.now.cells in
    let x = c.in-Free.variable in
    let a : occurs x (tree_at (trees cs) c.args.root) ≡ false = absent c.args.base x (tree_at (trees cs) c.args.root) c.requires.fresh (omega (arith, c.if-variable-base.false)) in
    bound-same cs c.bind.new.self.cells c.args.place c.args.root x c.requires.inside.0 c.requires.inside.1 c.bind.ensures.len c.in-Free.ensures.tree a c.bind.ensures.trees i l
    (absent c.args.base x (tree_at (trees cs) i) h (omega (arith, c.if-variable-base.false)))
