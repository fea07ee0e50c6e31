use Rattle.std.proofs.Common.{refl, map, ◌++◌, ◌∷◌, []}
use Rattle.ap_term.specs.AtomTable.{insert_names}
use Rattle.ap_term.specs.TermView.{tree_of}
use Rattle.ap_reader.specs.Build.{term_in}
use Rattle.ap_reader.proofs.Held.{held_item}
use Rattle.ap_reader.proofs.Trees.{list-in}
use Rattle.ap_reader.proofs.build.listed.Goals as goal

pub returns-in-Ok-take_list-clause-value : goal.returns-in-Ok-take_list-clause-value
returns-in-Ok-take_list-clause-value c = λ more ys x u vs e h.
    let ns = insert_names c.atom.new.atoms more in
    let all = c.in-Ok-take_list.ensures ns (ys ++ x ∷ []) vs (held_item ns x ys vs c.args.stack.now e) in
    (list-in ns ys x u c.in-Ok.dot (map (term_in ns) (ys ++ x ∷ [])) (tree_of c.args.tail) (tree_of c.in-Ok-take_list.term) (c.in-Ok.ensures.place more) refl h all.0, all.1)
