use Rattle.std.proofs.Common.{ap, sym, subst, ◌∙◌, map}
use Rattle.ap_term.specs.Goals.{joined}
use Rattle.ap_term.specs.Search.{start}
use Rattle.ap_term.specs.Blocks.{Begins, IsAllUpTo}
use Rattle.ap_term.proofs.SearchLaws.{search-Begins, search-IsAll}
use Rattle.ap_spec.proofs.searches.search.Goals as goal

pub returns-clause-begins : goal.returns-clause-begins
returns-clause-begins c = λ line.
    let p = joined c.args.p.now c.args.query.now in
    let q = start c.args.query.now in
    subst (λ f. Begins line p q (map line f.answers)) (sym c.in_ok-found.ensures) (search-Begins line p c.args.n q)

pub returns-clause-all : goal.returns-clause-all
returns-clause-all c = λ e line.
    let p = joined c.args.p.now c.args.query.now in
    let q = start c.args.query.now in
    subst (λ f. IsAllUpTo line p q f.fault (map line f.answers)) (sym c.in_ok-found.ensures)
    (search-IsAll line p c.args.n q (sym (ap (λ f. f.ended) c.in_ok-found.ensures) ∙ e))
