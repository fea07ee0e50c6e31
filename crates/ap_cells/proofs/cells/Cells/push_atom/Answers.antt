use Rattle.std.proofs.Common.{[], ◌∷◌, ◌++◌, ap, ◌∙◌, subst, arith}
use Rattle.std.proofs.lemmas.List.{length_push}
use Rattle.ap_cells.specs.declared.cells.Raw.TheVariants.{Atom as AtomRaw}
use Rattle.ap_cells.specs.Trees.{trees}
use Rattle.ap_cells.specs.Store.{Store, IsStore}
use Rattle.ap_cells.proofs.Stores.{IsStore-push, trees-push, Keeps-push}
use Rattle.ap_cells.proofs.Settled.{Closed-push}
use Rattle.ap_cells.proofs.cells.Cells.push_atom.Goals as goal

pub invariant_of-self : goal.invariant_of-self
invariant_of-self c =
    let s = ap (λ (v : Store). v.spare) c.self.view_is in
    let l = length_push c.self.inside.cells.items (AtomRaw c.args.name) in
    record {
      store = rw c.push_atom.ensures.items (IsStore-push c.self.inside.cells.items c.self.inside.trail.items (AtomRaw c.args.name) c.self.invariant.store tt);
      used = rw c.push_atom.ensures.items (omega (arith, l, s));
      room = omega arith;
      trail_room = omega arith;
      few = omega arith;
      settled = rw c.push_atom.ensures.items (Closed-push c.self.inside.settled c.self.inside.cells.items (AtomRaw c.args.name) c.self.invariant.settled_few c.self.invariant.settled);
      settled_few = rw c.push_atom.ensures.items (omega (arith, l, c.self.invariant.settled_few));
    }

pub returns-clause-trees : goal.returns-clause-trees
returns-clause-trees c =
    let t : IsStore c.args.self.now.cells c.args.self.now.trail = subst (λ (v : Store). IsStore v.cells v.trail) c.self.view_is c.self.invariant.store in
    ap trees (c.push_atom.ensures.items ∙ ap (λ (v : Store). v.cells ++ (AtomRaw c.args.name) ∷ []) c.self.view_is) ∙ trees-push c.args.self.now.cells c.args.self.now.trail (AtomRaw c.args.name) t tt

pub returns-clause-keeps : goal.returns-clause-keeps
returns-clause-keeps c =
    let t : IsStore c.args.self.now.cells c.args.self.now.trail = subst (λ (v : Store). IsStore v.cells v.trail) c.self.view_is c.self.invariant.store in
    Keeps-push _ _ (AtomRaw c.args.name) t (c.push_atom.ensures.items ∙ ap (λ (v : Store). v.cells ++ (AtomRaw c.args.name) ∷ []) c.self.view_is) (ap (λ (v : Store). v.trail) c.self.view_is)
