use Rattle.std.proofs.Common.{◌≡◌, Some, take, ap, sym, ◌∙◌, subst}
use Rattle.ap_term.specs.declared.fixed.TheConstants.{QUERY}
use Rattle.ap_tracked.specs.Tracked.{IsOneOf}
use Rattle.ap_codegen.specs.Assembled.{Keeps, IsMade}
use Rattle.ap_codegen.specs.Heads.{with_heads}
use Rattle.ap_codegen.proofs.Heads.{one_kept, heads_there}
use Rattle.ap_codegen.proofs.Keeping.{none_listed}
use Rattle.ap_codegen.proofs.Making.{made_all}
use Rattle.ap_codegen.proofs.programs.compile_clauses.Goals as goal

pub returns : goal.returns
returns c =
    let p = c.args.clauses.now in
    let t = c.add_predicates.new.tables in
    let m = c.add_predicates.new.made in
    let first = c.add_heads.new.tables.predicates in
    let both = c.add_heads-2.new.tables.predicates in
    let last : Keeps both t.predicates = λ i k e. c.in_ok-add_predicates.ensures.grows.predicates i k (c.in_ok-query.ensures.grows.predicates i k e) in
    let made : IsMade t m.instructions.items m.predicates.items p = c.in_ok-add_predicates.ensures.made p (λ k h b. c.in_ok-index.ensures k) (c.none_made-made.ensures.made _ p) in
    made_all t m.instructions.items m.predicates.items p c.new.result c.in_ok-query.query (QUERY, c.args.arity) made
    c.in_ok-add_predicates.ensures.all (c.in_ok-add_predicates.ensures.grows.predicates c.in_ok-query.query (QUERY, c.args.arity) (c.in_ok-query.ensures.number ∙ ap (λ a. Some (a, c.args.arity)) c.at.ensures))
    (ap (λ r. r.instructions) c.new.ensures) (ap (λ r. r.integers) c.new.ensures ∙ c.in_ok-integers.ensures.items ∙ c.integers.ensures) (ap (λ r. r.predicates) c.new.ensures) (ap (λ r. r.query) c.new.ensures)
    c.args.own.now first (c.in_ok-add_heads.ensures.keys ∙ ap (λ t. with_heads t.predicates c.args.own.now) c.new-tables.ensures)
    (λ i k e. last i k (c.in_ok-add_heads-2.ensures.grows.predicates i k e))
    (λ j h. one_kept j both t.predicates last (subst (IsOneOf j) (sym c.in_ok-add_heads-2.ensures.keys) (heads_there j first p h)))
    c.in_ok-add_predicates.ensures.once
    (c.in_ok-add_predicates.ensures.listed (none_listed _ c.predicate_count-listed.result c.none_made-made.ensures.none) ∙ ap (λ n. take n m.predicates.items) c.predicate_count-listed.ensures)
