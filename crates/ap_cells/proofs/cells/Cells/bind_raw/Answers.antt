use Rattle.std.proofs.Common.{◌+◌, [], ◌∷◌, ◌++◌, length, set, sym, ap, ◌∙◌, subst, arith, length-set}
use Rattle.ap_cells.specs.Trees.{trees, frees, Within}
use Rattle.ap_cells.specs.Store.{Store, IsStore}
use Rattle.ap_cells.proofs.Stores.{Keeps-bind, bound_is}
use Rattle.ap_cells.proofs.Settled.{Closed-with, no_more}
use Rattle.ap_cells.proofs.cells.Cells.bind_raw.Goals as goal

pub push_reserved-requires : goal.push_reserved-requires
push_reserved-requires c =
    let t : IsStore c.args.self.now.cells c.args.self.now.trail = subst (λ (v : Store). IsStore v.cells v.trail) c.self.view_is c.self.invariant.store in
    let v = ap (λ (v : Store). length v.cells) c.self.view_is in
    let w = ap (λ (v : Store). length v.trail) c.self.view_is in
    let b = bound_is c.args.self.now.cells c.args.self.now.trail c.args.place c.args.cell t c.requires.inside c.requires.within c.requires.bound c.requires.unbound c.requires.absent in
    let r = b.room in
    omega arith

pub invariant_of-self : goal.invariant_of-self
invariant_of-self c =
    let t : IsStore c.args.self.now.cells c.args.self.now.trail = subst (λ (v : Store). IsStore v.cells v.trail) c.self.view_is c.self.invariant.store in
    let b = bound_is c.args.self.now.cells c.args.self.now.trail c.args.place c.args.cell t c.requires.inside c.requires.within c.requires.bound c.requires.unbound c.requires.absent in
    let w = subst (λ (v : Store). Within (length v.cells) c.args.place c.args.cell) (sym c.self.view_is) c.requires.within in
    let v = ap (λ (v : Store). length v.cells) c.self.view_is in
    let s = subst (λ (v : Store). IsStore (set v.cells c.args.place c.args.cell) (v.trail ++ c.args.place ∷ [])) (sym c.self.view_is) b.store in
    record {
      store = rw (c.set.ensures.items, c.push_reserved.ensures.items) s;
      used = rw c.set.ensures.items (omega (arith, length-set c.self.inside.cells.items c.args.place c.args.cell));
      room = omega (arith, c.set.ensures.room, c.self.invariant.room);
      trail_room = omega arith;
      few = omega arith;
      settled = rw c.set.ensures.items (Closed-with c.self.inside.settled c.settled_with-settled.result c.self.inside.cells.items c.args.place c.args.cell (omega arith) c.self.invariant.settled c.settled_with-settled.ensures.same c.settled_with-settled.ensures.within w);
      settled_few = rw c.set.ensures.items (omega (arith, length-set c.self.inside.cells.items c.args.place c.args.cell, no_more c.settled_with-settled.result c.self.inside.settled c.settled_with-settled.ensures.same, c.self.invariant.settled_few));
    }

pub returns-clause-trees : goal.returns-clause-trees
returns-clause-trees c =
    let t : IsStore c.args.self.now.cells c.args.self.now.trail = subst (λ (v : Store). IsStore v.cells v.trail) c.self.view_is c.self.invariant.store in
    let b = bound_is c.args.self.now.cells c.args.self.now.trail c.args.place c.args.cell t c.requires.inside c.requires.within c.requires.bound c.requires.unbound c.requires.absent in
    ap trees c.set.ensures.items ∙ ap (λ (v : Store). trees (set v.cells c.args.place c.args.cell)) c.self.view_is ∙ b.trees_new

pub returns-clause-keeps : goal.returns-clause-keeps
returns-clause-keeps c =
    let t : IsStore c.args.self.now.cells c.args.self.now.trail = subst (λ (v : Store). IsStore v.cells v.trail) c.self.view_is c.self.invariant.store in
    let b = bound_is c.args.self.now.cells c.args.self.now.trail c.args.place c.args.cell t c.requires.inside c.requires.within c.requires.bound c.requires.unbound c.requires.absent in
    Keeps-bind c.args.self.now _ c.args.place c.args.cell b.free (c.set.ensures.items ∙ ap (λ (v : Store). set v.cells c.args.place c.args.cell) c.self.view_is)
    (c.push_reserved.ensures.items ∙ ap (λ (v : Store). v.trail ++ c.args.place ∷ []) c.self.view_is)

pub returns-clause-fewer : goal.returns-clause-fewer
returns-clause-fewer c =
    let t : IsStore c.args.self.now.cells c.args.self.now.trail = subst (λ (v : Store). IsStore v.cells v.trail) c.self.view_is c.self.invariant.store in
    let b = bound_is c.args.self.now.cells c.args.self.now.trail c.args.place c.args.cell t c.requires.inside c.requires.within c.requires.bound c.requires.unbound c.requires.absent in
    ap (λ cs. frees cs + 1) c.set.ensures.items ∙ ap (λ (v : Store). frees (set v.cells c.args.place c.args.cell) + 1) c.self.view_is ∙ b.fewer
