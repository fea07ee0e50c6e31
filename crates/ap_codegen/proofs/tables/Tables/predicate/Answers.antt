use Rattle.std.proofs.Common.{subst}
use Rattle.ap_codegen.specs.Assembled.{Numbered, Grows}
use Rattle.ap_codegen.proofs.Growing.{keeps_insert}
use Rattle.ap_codegen.proofs.tables.Tables.predicate.Goals as goal

pub returns-clause-grows : goal.returns-clause-grows
returns-clause-grows c =
    let new : Numbered = record { integers = c.self.inside.integers.keys; predicates = c.insert_full.new.self.keys } in
    subst (λ s. Grows s new) c.self.view_is
    (record { integers = λ i x e. e; predicates = keeps_insert _ c.self.inside.predicates.keys c.insert_full.new.self.keys (c.number.result, c.args.arity) c.in_ok-i.ensures.keys })
