use Rattle.std.proofs.Common.{◌≡◌, ◌++◌, ◌∷◌, [], length, slice_index, ap, sym, ◌∙◌, append_assoc, append-nil, arith}
use Rattle.std.proofs.lemmas.Grind.{common_steps}
use Rattle.ap_lifting.proofs.Filled.{one_lifted, all_lifted, enough_names}
use Rattle.ap_lifting.proofs.lifting.lift_program.Goals as goal

pub loop-rule-preserved : goal.loop-rule-preserved
loop-rule-preserved c = record {
  lifted =
      one_lifted (slice_index c.args.names.now) c.loop-rule.yielded c.in-Some.rule c.loop-rule.program c.push.new.self c.in_ok-lift_rule.field-0 c.loop-rule.out c.lift_rule.new.out c.loop-rule.invariant.lifted
      c.in_ok-lift_rule.ensures.clause c.in_ok-lift_rule.ensures.lifts c.in_ok-lift_rule.ensures.next c.in_ok-push.ensures;
  all =
      append_assoc c.loop-rule.yielded (c.in-Some.rule ∷ []) c.next.new.self.rest.items
      ∙ ap (λ l. c.loop-rule.yielded ++ l) (sym c.in-Some.ensures.steps.0) ∙ c.loop-rule.invariant.all;
}

pub lift_rule-requires : goal.lift_rule-requires
lift_rule-requires c =
    enough_names c.loop-rule.yielded c.loop-rule.rule-iterator.rest.items c.next.new.self.rest.items c.args.rules.items c.in-Some.rule c.loop-rule.out.next (length c.args.names.now)
    c.loop-rule.invariant.lifted.next c.loop-rule.invariant.all c.in-Some.ensures.steps.0 c.requires

pub returns : goal.returns
returns c =
    let none : c.loop-rule.rule-iterator.rest.items ≡ [] = grind (arith, common_steps, c.in-None.ensures.steps, c.in-None.ensures.goes, c.loop-rule.rule-iterator.rest.ok) in
    let all : c.loop-rule.yielded ≡ c.args.rules.items = sym (append-nil c.loop-rule.yielded) ∙ ap (λ l. c.loop-rule.yielded ++ l) (sym none) ∙ c.loop-rule.invariant.all in
    all_lifted (slice_index c.args.names.now) c.loop-rule.yielded c.args.rules.items c.loop-rule.program c.add_filled.new.out c.loop-rule.out c.loop-rule.invariant.lifted all c.in_ok-add_filled.ensures
