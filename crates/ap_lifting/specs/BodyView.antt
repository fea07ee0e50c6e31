-- The body that a value of the code stands for.
use Rattle.std.specs.Prelude.{Option, Some}
use Rattle.ap_term.specs.TermView.{tree_of}
use Rattle.ap_lifting.specs.declared.bodies.Body as code
use Rattle.ap_lifting.specs.declared.bodies.Body.TheVariants.{Goal, Conjunction', Disjunction', Parallel', Conditional'}
use Rattle.ap_lifting.specs.declared.row.RuleBody as rule
use Rattle.ap_lifting.specs.declared.row.RuleBody.TheVariants.{Row, Nested}
use Rattle.ap_lifting.specs.Row.{row_if}
use Rattle.ap_lifting.specs.Body.{Body, goal, conjunction, disjunction, parallel, conditional}

abbrev pub body_of : code.Body → Body
body_of (Goal t) = goal (tree_of t)
body_of (Conjunction' p a q b) = conjunction (body_of a) (body_of b)
body_of (Disjunction' p a q b) = disjunction (body_of a) (body_of b)
body_of (Parallel' p a q b) = parallel (body_of a) (body_of b)
body_of (Conditional' cs p b) = conditional cs.items (body_of b)

-- of a clause; a fact is a row of no goals
abbrev pub body_if : rule.RuleBody → Option Body
body_if (Row goals) = row_if goals
body_if (Nested b) = Some (body_of b.value)
