use Rattle.std.proofs.Common.{◌∙◌, ap, refl, take, drop}
use Rattle.ap_term.specs.TermView.{trees_of}
use Rattle.ap_reader.proofs.Held.{items_held}
use Rattle.ap_reader.proofs.Trees.{row-in}
use Rattle.ap_reader.proofs.terms.Stack.take_items.Goals as goal

pub returns-in-Ok-clause-value : goal.returns-in-Ok-clause-value
returns-in-Ok-clause-value c = λ ns ys vs h.
    let n = c.first_item-from.result in
    let old = c.args.self.now.terms.items in
    let same = c.first_item-from.ensures.terms in
    let held = items_held ns ys vs c.args.self.now (record { terms = c.take_from.new.terms; begun = c.first_item-from.new.self.begun }) (drop n old) n h (c.first_item-from.ensures.first ns ys vs h)
    refl (c.in-Ok.ensures.left ∙ ap (λ v. take n v.items) same) in
    (c.in-Ok.ensures.taken ∙ ap (λ v. trees_of (drop n v.items)) same ∙ row-in ns (drop n old) ys held.0, held.1)
