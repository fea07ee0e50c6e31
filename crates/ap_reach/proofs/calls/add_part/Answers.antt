use Rattle.std.proofs.Common.{sym, subst}
use Rattle.std.proofs.lemmas.Result.{on_ok_weaker}
use Rattle.ap_term.specs.GoalView.{part_of}
use Rattle.ap_reach.specs.Reached.{AreNamed, IsPartNamed}
use Rattle.ap_reach.proofs.Naming.{are_named}
use Rattle.ap_reach.proofs.calls.add_part.Goals as goal

pub returns-in-Group-clause-named : goal.returns-in-Group-clause-named
returns-in-Group-clause-named c =
    let p = c.args.program.now in
    on_ok_weaker c.add_goals.result
    (λ h.
    subst (λ t. IsPartNamed p c.add_goals.new.calls (part_of t)) (sym c.in-Group.is)
    (subst (AreNamed p c.add_goals.new.calls) c.as_slice.ensures (are_named p c.add_goals.new.calls c.as_slice.result.now h)))
    c.add_goals.ensures.named
