use Rattle.std.proofs.Common.{◌≡◌, ◌++◌, length, take, drop, ap, sym, subst, ◌∙◌}
use Rattle.ap_term.specs.TermView.{trees_of}
use Rattle.ap_term.specs.Goals.{group, calls}
use Rattle.ap_term.proofs.Copies.{instance_all_var}
use Rattle.ap_alike.specs.Alike.{AreAlikeGoals}
use Rattle.ap_alike.proofs.Places.{goals-cut}
use Rattle.ap_alike.proofs.fitting.fit_group.Goals as goal

pub returns : goal.returns
returns c =
    let n = length c.args.own.now in
    let goals = c.args.goals.now in
    let own = trees_of c.args.own.now in
    let same : c.in_ok-calls.calls ≡ trees_of (take n goals) = c.in_ok-calls.ensures ∙ instance_all_var (trees_of (take n goals)) in
    record {
      part = group c.in_ok-checks.checks c.in_ok-calls.calls;
      out = c.in_ok-push.ensures;
      alike = (c.in_ok-checks.ensures, subst (λ x. AreAlikeGoals own x) (sym same) (c.in_ok-are_alike_goals.ensures c.if-not-branch.false));
      few = c.if-n-goals.false;
      same = ap (λ x. calls x ++ calls (trees_of (drop n goals))) same ∙ goals-cut goals n;
    }
