use Rattle.std.proofs.Common.{◌∙◌, subst}
use Rattle.std.specs.List.{All}
use Rattle.std.proofs.lemmas.Result.{on_ok_weaker}
use Rattle.std.proofs.lemmas.List.Elements.{All-map}
use Rattle.ap_term.specs.GoalView.{part_of}
use Rattle.ap_reach.specs.Reached.{IsPartNamed}
use Rattle.ap_reach.proofs.Naming.{body_among}
use Rattle.ap_reach.proofs.calls.add_body.Goals as goal

pub returns-clause-among : goal.returns-clause-among
returns-clause-among c =
    let p = c.args.program.now in
    let ks = c.add_parts.new.calls in
    on_ok_weaker c.add_parts.result
    (λ h.
    body_among p ks c.args.clause.now.vars c.args.clause.now.body
    (subst (All (IsPartNamed p ks)) (c.as_slice.ensures ∙ c.body.ensures.body) (All-map (IsPartNamed p ks) part_of c.as_slice.result.now h))
    c.body.ensures.kept.body)
    c.add_parts.ensures.named
