use Rattle.std.proofs.Common.{◌∷◌}
use Rattle.ap_term.specs.AtomTable.{insert_names}
use Rattle.ap_reader.specs.Evaluated.{ATerm}
use Rattle.ap_reader.proofs.build.infix.Goals as goal

pub returns-in-Ok-compound2-clause-value : goal.returns-in-Ok-compound2-clause-value
returns-in-Ok-compound2-clause-value c = λ more x y vs e.
    let ns = insert_names c.atom.new.atoms more in
    let name = c.in-Ok.ensures.place more in
    let right = c.take-right.ensures ns y (ATerm x ∷ vs) e in
    let left = c.take.ensures ns x vs right.1 in
    let term = c.in-Ok-compound2.ensures in
    (cc, left.1)
