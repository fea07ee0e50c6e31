use Rattle.std.proofs.Common.{◌≡◌, [], length, ap, ◌∙◌, subst}
use Rattle.ap_codegen.specs.Assembled.{Keeps, clauses_for}
use Rattle.ap_codegen.specs.Heads.{with_heads}
use Rattle.ap_codegen.proofs.Keeping.{others_none, none_listed}
use Rattle.ap_codegen.proofs.kept.Kept.of.Goals as goal

pub returns : goal.returns
returns c =
    let p = c.args.program.now in
    let t = c.add_predicates.new.tables in
    let first : c.add_heads.new.tables.predicates ≡ with_heads [] p =
    c.in_ok-add_heads.ensures.keys ∙ ap (λ t. with_heads t.predicates c.as_slice-own.result.now) c.new-tables.ensures ∙ ap (with_heads []) c.as_slice-own.ensures.clauses in
    let heads : Keeps (with_heads [] p) t.predicates = subst (λ ks. Keeps ks t.predicates) first c.in_ok-add_predicates.ensures.grows.predicates in
    record {
      made = c.in_ok-add_predicates.ensures.made p (λ k h b. c.in_ok-index.ensures k ∙ ap (clauses_for k) c.as_slice-own.ensures.clauses) (c.none_made-made.ensures.made _ p);
      all = c.in_ok-add_predicates.ensures.all;
      heads = heads;
      others = λ k h b. others_none k t.predicates p c.as_slice-own.ensures.kept heads h b;
      count = c.predicate_count-listed.ensures ∙ ap length first;
      flags = c.in_ok-add_predicates.ensures.listed (none_listed _ c.predicate_count-listed.result c.none_made-made.ensures.none);
    }
