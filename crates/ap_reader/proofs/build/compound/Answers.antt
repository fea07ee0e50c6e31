use Rattle.std.proofs.Common.{◌++◌, ◌∷◌, []}
use Rattle.ap_term.specs.AtomTable.{insert_names}
use Rattle.ap_reader.proofs.Held.{held_item}
use Rattle.ap_reader.proofs.Trees.{arguments-in}
use Rattle.ap_reader.proofs.build.compound.Goals as goal

pub returns-in-Ok-take_items-clause-value : goal.returns-in-Ok-take_items-clause-value
returns-in-Ok-take_items-clause-value c = λ more ys x vs e.
    let ns = insert_names c.atom.new.atoms more in
    let name = c.in-Ok.ensures.place more in
    let all = c.in-Ok-take_items.ensures.value ns (ys ++ x ∷ []) vs (held_item ns x ys vs c.args.stack.now e) in
    let row = arguments-in ns c.in-Ok-take_items.items ys x all.0 in
    (cc (name, row), all.1)
