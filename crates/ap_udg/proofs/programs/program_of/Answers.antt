use Rattle.std.proofs.Common.{◌≡◌, ◌++◌, ◌∷◌, [], ap, sym, ◌∙◌, append_assoc, append-nil, arith}
use Rattle.std.proofs.lemmas.Grind.{common_steps}
use Rattle.ap_udg.proofs.programs.program_of.Goals as goal

pub loop-clause-preserved : goal.loop-clause-preserved
loop-clause-preserved c = record {
  taken = c.in_ok-push.ensures ∙ ap (λ l. l ++ c.in-Some.clause ∷ []) c.loop-clause.invariant.taken;
  all =
      append_assoc c.loop-clause.yielded (c.in-Some.clause ∷ []) c.next.new.self.rest.items
      ∙ ap (λ l. c.loop-clause.yielded ++ l) (sym c.in-Some.ensures.steps.0) ∙ c.loop-clause.invariant.all;
}

pub returns : goal.returns
returns c =
    let none : c.loop-clause.clause-iterator.rest.items ≡ [] = grind (arith, common_steps, c.in-None.ensures.steps, c.in-None.ensures.goes, c.loop-clause.clause-iterator.rest.ok) in
    c.loop-clause.invariant.taken ∙ sym (append-nil c.loop-clause.yielded) ∙ ap (λ l. c.loop-clause.yielded ++ l) (sym none) ∙ c.loop-clause.invariant.all
