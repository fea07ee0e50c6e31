use Rattle.std.proofs.Common.{◌≡◌, length, get_or, sym, ap, ◌∙◌, subst}
use Rattle.ap_cells.specs.Trees.{trees, step, Within}
use Rattle.ap_cells.specs.Store.{Store, IsStore}
use Rattle.ap_cells.proofs.Stores.{IsStore-stand}
use Rattle.ap_cells.proofs.cells.Cells.raw_at.Goals as goal

pub returns-clause-tree : goal.returns-clause-tree
returns-clause-tree c =
    let t : IsStore c.args.self.now.cells c.args.self.now.trail = subst (λ (v : Store). IsStore v.cells v.trail) c.self.view_is c.self.invariant.store in
    let s = IsStore-stand c.args.self.now.cells c.args.self.now.trail t in
    let e : c.at.result ≡ get_or c.args.self.now.cells c.args.place c.at.result = c.at.ensures c.at.result ∙ ap (λ (v : Store). get_or v.cells c.args.place c.at.result) c.self.view_is in
    s.each c.args.place c.at.result c.requires ∙ ap (step (trees c.args.self.now.cells) c.args.place) (sym e)

pub returns-clause-within : goal.returns-clause-within
returns-clause-within c =
    let t : IsStore c.args.self.now.cells c.args.self.now.trail = subst (λ (v : Store). IsStore v.cells v.trail) c.self.view_is c.self.invariant.store in
    let s = IsStore-stand c.args.self.now.cells c.args.self.now.trail t in
    let e : c.at.result ≡ get_or c.args.self.now.cells c.args.place c.at.result = c.at.ensures c.at.result ∙ ap (λ (v : Store). get_or v.cells c.args.place c.at.result) c.self.view_is in
    subst (Within (length c.args.self.now.cells) c.args.place) (sym e) (s.within c.args.place c.at.result c.requires)
