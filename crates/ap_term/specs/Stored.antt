-- The terms and the checks that are stored.
use Rattle.std.specs.Prelude.{List, [], Option, Some, None}
use Rattle.std.proofs.Common.{Vec, Box, Global}
use Rattle.ap_term.specs.declared.clauses.Check.{Check}
use Rattle.ap_term.specs.declared.terms.Term.{Term}
use Rattle.ap_term.specs.declared.terms.Stored.{Stored}
use Rattle.ap_term.specs.declared.terms.Stored.TheVariants.{Empty, One, Two, Three, Many}

abbrev pub items_of : Stored → List Term
items_of Empty = []
items_of (One ts) = ts.value
items_of (Two ts) = ts.value
items_of (Three ts) = ts.value
items_of (Many ts) = ts.value.items

abbrev pub checks_of : Option (Box (Vec Check Global) Global) → List Check
checks_of None = []
checks_of (Some cs) = cs.value.items
