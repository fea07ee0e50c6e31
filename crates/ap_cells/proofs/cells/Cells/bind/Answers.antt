use Rattle.std.proofs.Common.{length, map, sym, ap, ◌∙◌, subst}
use Rattle.ap_term.specs.Tree.{Tree}
use Rattle.ap_term.specs.Vars.{occurs}
use Rattle.ap_term.specs.Substitution.{instance, value, one}
use Rattle.ap_cells.specs.Trees.{trees}
use Rattle.ap_cells.proofs.Stores.{Links, links}
use Rattle.ap_cells.proofs.cells.Cells.bind.Goals as goal

pub bind_raw-requires-clause-within : goal.bind_raw-requires-clause-within
bind_raw-requires-clause-within c =
    let cs = c.args.self.now.cells in
    let l = links (trees cs) (length cs) c.args.place c.deref-end.result c.raw_at.result c.raw_at.ensures.tree c.raw_at.ensures.within (rw (c.raw_at.ensures.cell c.raw_at.result) (c.deref-end.ensures.end c.raw_at.result))
    (λ x v. c.requires.down x (sym c.deref-end.ensures.tree ∙ v)) in
    (subst (Links (trees cs) (length cs) c.args.place c.deref-end.result) (sym c.linked-cell.ensures) l).1

pub bind_raw-requires-clause-bound : goal.bind_raw-requires-clause-bound
bind_raw-requires-clause-bound c =
    let cs = c.args.self.now.cells in
    let l = links (trees cs) (length cs) c.args.place c.deref-end.result c.raw_at.result c.raw_at.ensures.tree c.raw_at.ensures.within (rw (c.raw_at.ensures.cell c.raw_at.result) (c.deref-end.ensures.end c.raw_at.result))
    (λ x v. c.requires.down x (sym c.deref-end.ensures.tree ∙ v)) in
    (subst (Links (trees cs) (length cs) c.args.place c.deref-end.result) (sym c.linked-cell.ensures) l).2

pub bind_raw-requires-clause-absent : goal.bind_raw-requires-clause-absent
bind_raw-requires-clause-absent c =
    let cs = c.args.self.now.cells in
    let l = links (trees cs) (length cs) c.args.place c.deref-end.result c.raw_at.result c.raw_at.ensures.tree c.raw_at.ensures.within (rw (c.raw_at.ensures.cell c.raw_at.result) (c.deref-end.ensures.end c.raw_at.result))
    (λ x v. c.requires.down x (sym c.deref-end.ensures.tree ∙ v)) in
    ap (occurs c.args.place) ((subst (Links (trees cs) (length cs) c.args.place c.deref-end.result) (sym c.linked-cell.ensures) l).0 ∙ c.deref-end.ensures.tree) ∙ c.requires.absent

pub returns-clause-trees : goal.returns-clause-trees
returns-clause-trees c =
    let cs = c.args.self.now.cells in
    let l = links (trees cs) (length cs) c.args.place c.deref-end.result c.raw_at.result c.raw_at.ensures.tree c.raw_at.ensures.within (rw (c.raw_at.ensures.cell c.raw_at.result) (c.deref-end.ensures.end c.raw_at.result))
    (λ x v. c.requires.down x (sym c.deref-end.ensures.tree ∙ v)) in
    c.bind_raw.ensures.trees
    ∙ ap (λ (t : Tree). map (instance (value (one c.args.place t))) (trees cs)) ((subst (Links (trees cs) (length cs) c.args.place c.deref-end.result) (sym c.linked-cell.ensures) l).0 ∙ c.deref-end.ensures.tree)
