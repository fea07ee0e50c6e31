use Rattle.std.proofs.Common.{◌≡◌, [], ◌++◌, false, Some, length, map, take, slice_get, refl, ap, sym, ◌∙◌, subst}
use Rattle.std.specs.List.{list_any}
use Rattle.ap_term.specs.declared.fixed.TheConstants.{QUERY}
use Rattle.ap_instr.specs.Table.{is_key, key_of}
use Rattle.ap_codegen.specs.Assembled.{Grows, Keeps, IsMade}
use Rattle.ap_codegen.specs.Heads.{with_heads}
use Rattle.ap_codegen.proofs.Growing.{grows_on}
use Rattle.ap_codegen.proofs.Heads.{keys_same, kept_first}
use Rattle.ap_codegen.proofs.Keeping.{made_grown, made_behind, found_behind, has_both}
use Rattle.ap_codegen.proofs.Making.{made_all}
use Rattle.ap_codegen.proofs.kept.code_behind.Goals as goal

pub returns-clause-grows : goal.returns-clause-grows
returns-clause-grows c =
    grows_on _ _ _ (grows_on _ _ _ c.in_ok-add_heads.ensures.grows c.in_ok-query.ensures.grows) c.in_ok-add_predicates.ensures.grows

pub returns-clause-stands : goal.returns-clause-stands
returns-clause-stands c p are new =
    let s = c.args.tables.now in
    let u = c.add_heads.new.tables in
    let v = c.predicate.new.self in
    let t = c.add_predicates.new.tables in
    let old = c.args.made in
    let m = c.add_predicates.new.made in
    let l = c.args.own.now in
    let first : Grows s v = grows_on s u v c.in_ok-add_heads.ensures.grows c.in_ok-query.ensures.grows in
    let all : Grows s t = grows_on s v t first c.in_ok-add_predicates.ensures.grows in
    let was : IsMade v old.instructions.items old.predicates.items (p ++ l) = made_grown s v _ _ (p ++ l) first (made_behind s _ _ p l new are.made) in
    let same : map key_of old.predicates.items ≡ s.predicates = keys_same old.predicates.items s.predicates are.made.named are.all in
    let made : IsMade t m.instructions.items m.predicates.items (p ++ l) =
    c.in_ok-add_predicates.ensures.made (p ++ l) (λ k h b. found_behind k p l _ (c.in_ok-index.ensures k) (are.others k (subst (λ ks. list_any (is_key k) ks ≡ false) same h) b)) was in
    let own : Keeps (with_heads s.predicates l) t.predicates =
    λ i k e. c.in_ok-add_predicates.ensures.grows.predicates i k (c.in_ok-query.ensures.grows.predicates i k (subst (λ ks. slice_get ks i ≡ Some k) (sym c.in_ok-add_heads.ensures.keys) e)) in
    made_all t m.instructions.items m.predicates.items (p ++ l) c.new.result c.in_ok-query.query (QUERY, c.args.arity) made
    c.in_ok-add_predicates.ensures.all (c.in_ok-add_predicates.ensures.grows.predicates c.in_ok-query.query (QUERY, c.args.arity) (c.in_ok-query.ensures.number ∙ ap (λ a. Some (a, c.args.arity)) c.at.ensures))
    (ap (λ r. r.instructions) c.new.ensures) (ap (λ r. r.integers) c.new.ensures ∙ c.in_ok-integers.ensures.items ∙ c.integers.ensures) (ap (λ r. r.predicates) c.new.ensures) (ap (λ r. r.query) c.new.ensures)
    p (with_heads [] p) refl
    (λ i k e. all.predicates i k (are.heads i k e))
    (λ j h. has_both j s.predicates t.predicates p l are.heads all.predicates own h)
    c.in_ok-add_predicates.ensures.once
    (c.in_ok-add_predicates.ensures.listed are.flags ∙ ap (λ n. take n m.predicates.items) are.count)

pub returns-clause-begins : goal.returns-clause-begins
returns-clause-begins c =
    let s = c.args.tables.now in
    let v = c.predicate.new.self in
    let first : Grows s v = grows_on s c.add_heads.new.tables v c.in_ok-add_heads.ensures.grows c.in_ok-query.ensures.grows in
    let all : Grows s c.add_predicates.new.tables = grows_on s v c.add_predicates.new.tables first c.in_ok-add_predicates.ensures.grows in
    let code = c.new.ensures in
    record {
      instructions = ap (λ r. take (length c.args.made.instructions.items) r.instructions) code ∙ c.in_ok-add_predicates.ensures.instructions;
      integers =
          ap (λ r. take (length s.integers) r.integers) code
          ∙ ap (take (length s.integers)) (c.in_ok-integers.ensures.items ∙ c.integers.ensures)
          ∙ kept_first s.integers c.add_predicates.new.tables.integers all.integers;
      predicates = ap (λ r. take (length c.args.made.predicates.items) r.predicates) code ∙ c.in_ok-add_predicates.ensures.predicates;
    }
