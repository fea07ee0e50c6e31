use Rattle.std.proofs.Common.{[], ◌∷◌, ◌++◌, ap, ◌∙◌, subst, arith}
use Rattle.std.proofs.lemmas.List.{length_push}
use Rattle.ap_cells.specs.declared.cells.Raw.TheVariants.{Free}
use Rattle.ap_cells.specs.Trees.{trees}
use Rattle.ap_cells.specs.Store.{Store, IsStore}
use Rattle.ap_cells.proofs.Stores.{IsStore-push, trees-push, Keeps-push}
use Rattle.ap_cells.proofs.Settled.{Closed-push}
use Rattle.ap_cells.proofs.cells.Cells.push_free.Goals as goal

pub invariant_of-self : goal.invariant_of-self
invariant_of-self c =
    let s = ap (λ (v : Store). v.spare) c.self.view_is in
    let l = length_push c.self.inside.cells.items Free in
    record {
      store = rw c.push_free.ensures.items (IsStore-push c.self.inside.cells.items c.self.inside.trail.items Free c.self.invariant.store tt);
      used = rw c.push_free.ensures.items (omega (arith, l, s));
      room = omega arith;
      trail_room = omega arith;
      few = omega arith;
      settled = rw c.push_free.ensures.items (Closed-push c.self.inside.settled c.self.inside.cells.items Free c.self.invariant.settled_few c.self.invariant.settled);
      settled_few = rw c.push_free.ensures.items (omega (arith, l, c.self.invariant.settled_few));
    }

pub returns-clause-trees : goal.returns-clause-trees
returns-clause-trees c =
    let t : IsStore c.args.self.now.cells c.args.self.now.trail = subst (λ (v : Store). IsStore v.cells v.trail) c.self.view_is c.self.invariant.store in
    ap trees (c.push_free.ensures.items ∙ ap (λ (v : Store). v.cells ++ Free ∷ []) c.self.view_is) ∙ trees-push c.args.self.now.cells c.args.self.now.trail Free t tt

pub returns-clause-keeps : goal.returns-clause-keeps
returns-clause-keeps c =
    let t : IsStore c.args.self.now.cells c.args.self.now.trail = subst (λ (v : Store). IsStore v.cells v.trail) c.self.view_is c.self.invariant.store in
    Keeps-push _ _ Free t (c.push_free.ensures.items ∙ ap (λ (v : Store). v.cells ++ Free ∷ []) c.self.view_is) (ap (λ (v : Store). v.trail) c.self.view_is)
