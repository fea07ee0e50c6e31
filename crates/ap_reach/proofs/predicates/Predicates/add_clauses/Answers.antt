use Rattle.std.proofs.Common.{◌≡◌, [], ◌++◌, append-nil, sym, ap, ◌∙◌, rules}
use Rattle.std.proofs.lemmas.Result.{on_ok_weaker}
use Rattle.ap_term.specs.Goals.{Program}
use Rattle.ap_reach.specs.Reached.{clauses_for}
use Rattle.ap_reach.specs.Index.{clauses_at, clauses_of}
use Rattle.ap_reach.proofs.predicates.Predicates.add_clauses.Goals as goal

pub returns-in-Some : goal.returns-in-Some
returns-in-Some c =
    let own : clauses_at c.self.inside.index c.args.call ≡ clauses_of c.in-Some.own.now = search rules in
    on_ok_weaker c.add_own_copies.result (λ h. h ∙ ap (λ (z : Program). c.args.part.now ++ z) (sym own ∙ c.self.invariant.0 c.args.call c.requires.near ∙ ap (clauses_for c.args.call) c.self.view_is)) c.add_own_copies.ensures

pub returns-in-None : goal.returns-in-None
returns-in-None c =
    let none : clauses_at c.self.inside.index c.args.call ≡ [] = search rules in
    sym (append-nil c.args.part.now) ∙ ap (λ (z : Program). c.args.part.now ++ z) (sym none ∙ c.self.invariant.0 c.args.call c.requires.near ∙ ap (clauses_for c.args.call) c.self.view_is)
