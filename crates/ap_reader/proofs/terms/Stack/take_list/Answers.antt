use Rattle.std.proofs.Common.{refl, ◌∙◌, ap, take, drop, map}
use Rattle.ap_term.specs.TermView.{tree_of}
use Rattle.ap_reader.specs.Build.{tree_cells}
use Rattle.ap_reader.proofs.Held.{items_held}
use Rattle.ap_reader.proofs.terms.Stack.take_list.Goals as goal

pub returns-in-Ok : goal.returns-in-Ok
returns-in-Ok c = λ ns ys vs h.
    let from = c.first_item-from.result in
    let same = c.first_item-from.ensures.terms in
    let behind = drop from c.args.self.now.terms.items in
    let items = items_held ns ys vs c.args.self.now (record { terms = c.list_from.new.terms; begun = c.first_item-from.new.self.begun }) behind from h (c.first_item-from.ensures.first ns ys vs h)
    refl (c.in-Ok.ensures.terms ∙ ap (λ v. take from v.items) same) in
    (c.in-Ok.ensures.list ∙ ap (λ v. tree_cells c.args.dot (map tree_of (drop from v.items)) (tree_of c.args.tail)) same ∙ ap (λ ts. tree_cells c.args.dot ts (tree_of c.args.tail)) items.0, items.1)
