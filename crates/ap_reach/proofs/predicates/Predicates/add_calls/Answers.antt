use Rattle.std.proofs.Common.{◌≡◌, [], sym, ap, ◌∙◌, subst, rules}
use Rattle.std.proofs.lemmas.Result.{on_ok_weaker}
use Rattle.std.proofs.lemmas.List.Elements.{All-nil}
use Rattle.ap_reach.specs.Reached.{clauses_for, BodyIsAmong, CallsAmong}
use Rattle.ap_reach.specs.Index.{clauses_at, clauses_of}
use Rattle.ap_reach.proofs.predicates.Predicates.add_calls.Goals as goal

pub returns-in-Some-clause-among : goal.returns-in-Some-clause-among
returns-in-Some-clause-among c =
    let own : clauses_at c.self.inside.index c.args.call ≡ clauses_of c.in-Some.own.now = search rules in
    on_ok_weaker c.add_own_calls.result (λ h. subst (CallsAmong c.args.self.now c.add_own_calls.new.calls) (sym own ∙ c.self.invariant.0 c.args.call c.requires.near ∙ ap (clauses_for c.args.call) c.self.view_is) h) c.add_own_calls.ensures.among

pub returns-in-None-clause-among : goal.returns-in-None-clause-among
returns-in-None-clause-among c =
    let none : clauses_at c.self.inside.index c.args.call ≡ [] = search rules in
    subst (CallsAmong c.args.self.now c.args.calls.now) (sym none ∙ c.self.invariant.0 c.args.call c.requires.near ∙ ap (clauses_for c.args.call) c.self.view_is) (All-nil (BodyIsAmong c.args.self.now c.args.calls.now))
