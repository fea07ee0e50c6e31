use Rattle.std.proofs.Common.{◌≡◌, subst, IfOk}
use Rattle.ap_term.specs.TermView.{tree_of, trees_of}
use Rattle.ap_core.proofs.Fitting.{fitted_some}
use Rattle.ap_core.proofs.grafts.FittedBindings.term_for.Goals as goal

pub returns-in-Some : goal.returns-in-Some
returns-in-Some c =
    subst (λ y. IfOk c.copy_term.result (λ t. tree_of t ≡ y))
    (fitted_some c.args.variable (trees_of c.args.self.now.pattern.now) (trees_of c.args.self.now.tuple.now) (tree_of c.in-Some.t.now) c.in-Some.ensures) c.copy_term.ensures
