use Rattle.std.proofs.Common.{◌≡◌, ℕ, Option}
use Rattle.ap_term.specs.Tree.{Tree}
use Rattle.ap_marks.specs.Classes.{Agrees}
use Rattle.ap_marks.proofs.classes.Classes.find.Given as goal

abbrev pub invariant-loop : goal.invariant-loop
invariant-loop l = (f : ℕ → Option Tree) → Agrees f l.self → f l.x ≡ f l.at
