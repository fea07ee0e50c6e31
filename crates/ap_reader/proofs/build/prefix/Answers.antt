use Rattle.ap_term.specs.AtomTable.{insert_names}
use Rattle.ap_reader.proofs.build.prefix.Goals as goal

pub returns-in-Ok-compound1-clause-value : goal.returns-in-Ok-compound1-clause-value
returns-in-Ok-compound1-clause-value c = λ more x vs e.
    let ns = insert_names c.atom.new.atoms more in
    let name = c.in-Ok.ensures.place more in
    let top = c.take.ensures ns x vs e in
    let term = c.in-Ok-compound1.ensures in
    (cc, top.1)
