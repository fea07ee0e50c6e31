use Rattle.std.proofs.Common.{◌≡◌, length, take, drop, sym, ap, ◌∙◌, subst, arith}
use Rattle.std.proofs.lemmas.List.{length-take}
use Rattle.ap_cells.specs.Store.{Store, freed, IsMark}
use Rattle.ap_cells.proofs.Stores.{IsStore-undo, freed-length, IsMark-older, undone-older}
use Rattle.ap_cells.proofs.Settled.{Closed-back}
use Rattle.ap_cells.proofs.cells.Cells.undo_to.Goals as goal

pub invariant_of-self : goal.invariant_of-self
invariant_of-self c =
    let v = ap (λ (v : Store). v.cells) c.self.view_is in
    let w = ap (λ (v : Store). v.trail) c.self.view_is in
    let m : IsMark c.self.inside.cells.items c.self.inside.trail.items c.args.mark.cells c.args.mark.trail = subst (λ (v : Store). IsMark v.cells v.trail c.args.mark.cells c.args.mark.trail) (sym c.self.view_is) c.requires in
    let l = length-take c.args.mark.cells (freed (drop c.args.mark.trail c.self.inside.trail.items) c.self.inside.cells.items) in
    let k = freed-length (drop c.args.mark.trail c.self.inside.trail.items) c.self.inside.cells.items in
    let b = Closed-back c.self.inside.settled c.self.inside.cells.items c.self.inside.trail.items c.args.mark.cells c.args.mark.trail c.min-self-inside.result c.self.invariant.settled_few c.self.invariant.settled m c.min-self-inside.ensures in
    record {
      store = rw (c.truncate.ensures.items, c.unwind.ensures.cells, c.unwind.ensures.trail) (IsStore-undo c.self.inside.cells.items c.self.inside.trail.items c.args.mark.cells c.args.mark.trail c.self.invariant.store m);
      used = rw (c.truncate.ensures.items, c.unwind.ensures.cells) (omega (arith, l, k));
      room = omega arith;
      trail_room = omega arith;
      few = omega arith;
      settled = rw (c.truncate.ensures.items, c.unwind.ensures.cells) b.0;
      settled_few = rw (c.truncate.ensures.items, c.unwind.ensures.cells) b.1;
    }

pub returns-clause-spare : goal.returns-clause-spare
returns-clause-spare c =
    let v = ap (λ (v : Store). length v.cells) c.self.view_is in
    let w = ap (λ (v : Store). v.spare) c.self.view_is in
    let l = length-take c.args.mark.cells (freed (drop c.args.mark.trail c.self.inside.trail.items) c.self.inside.cells.items) in
    let k = freed-length (drop c.args.mark.trail c.self.inside.trail.items) c.self.inside.cells.items in
    rw (c.truncate.ensures.items, c.unwind.ensures.cells) (omega (arith, l, k))

pub returns-clause-older : goal.returns-clause-older
returns-clause-older c n t h l o =
    let e : c.truncate.new.self.items ≡ take c.args.mark.cells (freed (drop c.args.mark.trail c.args.self.now.trail) c.args.self.now.cells) =
    c.truncate.ensures.items ∙ ap (take c.args.mark.cells) (c.unwind.ensures.cells ∙ ap (λ (v : Store). freed (drop c.args.mark.trail v.trail) v.cells) c.self.view_is) in
    let w : c.unwind.new.trail.items ≡ take c.args.mark.trail c.args.self.now.trail = c.unwind.ensures.trail ∙ ap (λ (v : Store). take c.args.mark.trail v.trail) c.self.view_is in
    rw (e, w) (IsMark-older c.args.self.now.cells c.args.self.now.trail c.args.mark.cells c.args.mark.trail n t c.requires h l o)

pub returns-clause-older_leads : goal.returns-clause-older_leads
returns-clause-older_leads c n t h l o =
    let e : c.truncate.new.self.items ≡ take c.args.mark.cells (freed (drop c.args.mark.trail c.args.self.now.trail) c.args.self.now.cells) =
    c.truncate.ensures.items ∙ ap (take c.args.mark.cells) (c.unwind.ensures.cells ∙ ap (λ (v : Store). freed (drop c.args.mark.trail v.trail) v.cells) c.self.view_is) in
    let w : c.unwind.new.trail.items ≡ take c.args.mark.trail c.args.self.now.trail = c.unwind.ensures.trail ∙ ap (λ (v : Store). take c.args.mark.trail v.trail) c.self.view_is in
    rw (e, w) (undone-older c.args.self.now.cells c.args.self.now.trail c.args.mark.cells c.args.mark.trail n t c.requires.earlier h l)
