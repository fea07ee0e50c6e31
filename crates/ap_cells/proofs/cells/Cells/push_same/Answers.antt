use Rattle.std.proofs.Common.{◌+◌, ◌<◌, [], ◌∷◌, ◌++◌, length, get_or, sym, ap, ◌∙◌, subst, arith}
use Rattle.std.proofs.lemmas.List.{length_push}
use Rattle.ap_term.specs.Tree.{Tree}
use Rattle.ap_cells.specs.declared.cells.Raw.{Raw}
use Rattle.ap_cells.specs.Trees.{trees, tree_at, IsEnd}
use Rattle.ap_cells.specs.Store.{Store, IsStore}
use Rattle.ap_cells.proofs.Stores.{Links, linked-new, IsStore-push, trees-push, Keeps-push}
use Rattle.ap_cells.proofs.Settled.{Closed-push}
use Rattle.ap_cells.proofs.cells.Cells.push_same.Goals as goal

-- the new cell has the term of the end of the chain
links : (c : goal.After-push_linked) → Links (trees c.self.inside.cells.items) (length c.self.inside.cells.items) (length c.self.inside.cells.items) c.deref-end.result c.push_linked.ensures.items.0
links c =
    let v = ap (λ (v : Store). length v.cells) c.self.view_is in
    let h : c.deref-end.result < length c.self.inside.cells.items = omega (arith, c.deref-end.ensures.place) in
    let ends : (d : Raw) → IsEnd (get_or c.self.inside.cells.items c.deref-end.result d) = λ d. subst (λ (v : Store). IsEnd (get_or v.cells c.deref-end.result d)) (sym c.self.view_is) (c.deref-end.ensures.end d) in
    linked-new c.self.inside.cells.items c.self.inside.trail.items c.deref-end.result c.push_linked.ensures.items.0 c.self.invariant.store h ends c.push_linked.ensures.items.1.1

pub invariant_of-self : goal.invariant_of-self
invariant_of-self c =
    let cell = c.push_linked.ensures.items.0 in
    let e = c.push_linked.ensures.items.1.0 in
    let s = ap (λ (v : Store). v.spare) c.self.view_is in
    let l = length_push c.self.inside.cells.items cell in
    record {
      store = rw e (IsStore-push c.self.inside.cells.items c.self.inside.trail.items cell c.self.invariant.store (links c).1);
      used = rw e (omega (arith, l, s));
      room = omega (arith, c.push_linked.ensures.room, c.self.invariant.room);
      trail_room = omega (arith, c.self.invariant.trail_room);
      few = omega (arith, c.self.invariant.few);
      settled = rw e (Closed-push c.self.inside.settled c.self.inside.cells.items cell c.self.invariant.settled_few c.self.invariant.settled);
      settled_few = rw e (omega (arith, l, c.self.invariant.settled_few));
    }

pub returns-clause-trees : goal.returns-clause-trees
returns-clause-trees c =
    let cs = c.self.inside.cells.items in
    let cell = c.push_linked.ensures.items.0 in
    ap trees c.push_linked.ensures.items.1.0 ∙ trees-push cs c.self.inside.trail.items cell c.self.invariant.store (links c).1
    ∙ ap (λ (t : Tree). trees cs ++ t ∷ []) (links c).0 ∙ ap (λ (v : Store). trees v.cells ++ tree_at (trees v.cells) c.deref-end.result ∷ []) c.self.view_is
    ∙ ap (λ (t : Tree). trees c.args.self.now.cells ++ t ∷ []) c.deref-end.ensures.tree

pub returns-clause-len : goal.returns-clause-len
returns-clause-len c =
    ap length c.push_linked.ensures.items.1.0 ∙ length_push c.self.inside.cells.items c.push_linked.ensures.items.0 ∙ ap (λ (v : Store). length v.cells + 1) c.self.view_is

pub returns-clause-spare : goal.returns-clause-spare
returns-clause-spare c =
    let s = ap (λ (v : Store). v.spare) c.self.view_is in
    let e = ap length c.push_linked.ensures.items.1.0 in
    omega (arith, length_push c.self.inside.cells.items c.push_linked.ensures.items.0, e)

pub returns-clause-keeps : goal.returns-clause-keeps
returns-clause-keeps c =
    let cell = c.push_linked.ensures.items.0 in
    let t : IsStore c.args.self.now.cells c.args.self.now.trail = subst (λ (v : Store). IsStore v.cells v.trail) c.self.view_is c.self.invariant.store in
    Keeps-push _ _ cell t (c.push_linked.ensures.items.1.0 ∙ ap (λ (v : Store). v.cells ++ cell ∷ []) c.self.view_is) (ap (λ (v : Store). v.trail) c.self.view_is)
