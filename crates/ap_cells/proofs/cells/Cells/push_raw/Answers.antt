use Rattle.std.proofs.Common.{[], ◌∷◌, ◌++◌, length, sym, ap, ◌∙◌, subst, arith}
use Rattle.std.proofs.lemmas.List.{length_push}
use Rattle.ap_cells.specs.Trees.{trees, Within}
use Rattle.ap_cells.specs.Store.{Store, IsStore}
use Rattle.ap_cells.proofs.Stores.{IsStore-push, trees-push, Keeps-push}
use Rattle.ap_cells.proofs.Settled.{Closed-push}
use Rattle.ap_cells.proofs.cells.Cells.push_raw.Goals as goal

pub invariant_of-self : goal.invariant_of-self
invariant_of-self c =
    let w = subst (λ (v : Store). Within (length v.cells) (length v.cells) c.args.cell) (sym c.self.view_is) c.requires.within in
    let s = ap (λ (v : Store). v.spare) c.self.view_is in
    let l = length_push c.self.inside.cells.items c.args.cell in
    record {
      store = rw c.push_reserved.ensures.items (IsStore-push c.self.inside.cells.items c.self.inside.trail.items c.args.cell c.self.invariant.store w);
      used = rw c.push_reserved.ensures.items (omega (arith, l, s));
      room = omega arith;
      trail_room = omega arith;
      few = omega arith;
      settled = rw c.push_reserved.ensures.items (Closed-push c.self.inside.settled c.self.inside.cells.items c.args.cell c.self.invariant.settled_few c.self.invariant.settled);
      settled_few = rw c.push_reserved.ensures.items (omega (arith, l, c.self.invariant.settled_few));
    }

pub returns-clause-trees : goal.returns-clause-trees
returns-clause-trees c =
    let t : IsStore c.args.self.now.cells c.args.self.now.trail = subst (λ (v : Store). IsStore v.cells v.trail) c.self.view_is c.self.invariant.store in
    ap trees (c.push_reserved.ensures.items ∙ ap (λ (v : Store). v.cells ++ c.args.cell ∷ []) c.self.view_is) ∙ trees-push c.args.self.now.cells c.args.self.now.trail c.args.cell t c.requires.within

pub returns-clause-keeps : goal.returns-clause-keeps
returns-clause-keeps c =
    let t : IsStore c.args.self.now.cells c.args.self.now.trail = subst (λ (v : Store). IsStore v.cells v.trail) c.self.view_is c.self.invariant.store in
    Keeps-push _ _ c.args.cell t (c.push_reserved.ensures.items ∙ ap (λ (v : Store). v.cells ++ c.args.cell ∷ []) c.self.view_is) (ap (λ (v : Store). v.trail) c.self.view_is)
