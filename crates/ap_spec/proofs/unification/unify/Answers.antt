use Rattle.std.proofs.Common.{sym, subst}
use Rattle.ap_term.specs.TermView.{tree_of}
use Rattle.ap_term.specs.Unifier.{IsMostGeneral}
use Rattle.ap_term.proofs.Solvable.{mgu-general}
use Rattle.ap_spec.proofs.unification.unify.Goals as goal

pub returns-clause-general : goal.returns-clause-general
returns-clause-general c =
    let a = tree_of c.args.a.now in
    let b = tree_of c.args.b.now in
    subst (IsMostGeneral a b) (sym c.in_ok-s.ensures) (mgu-general a b)
