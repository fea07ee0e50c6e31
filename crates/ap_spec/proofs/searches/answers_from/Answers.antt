use Rattle.std.proofs.Common.{◌≡◌, ◌<◌, ◌≤◌, ◌∷◌, ◌++◌, [], true, false, ap, subst, sym, ◌∙◌, arith}
use Rattle.std.specs.List.{All}
use Rattle.std.proofs.lemmas.List.Elements.{All-head, All-tail}
use Rattle.ap_term.specs.Search.{children}
use Rattle.ap_spec.specs.Searches.{IsShallow, has_goals, behind_answers, with_tuples, answers_of_all}
use Rattle.ap_spec.specs.States.{state_of, rules_of}
use Rattle.ap_spec.proofs.Depths.{weight, weight-cut, weight-turn, all-cut, all-turn, all-ended, all-fault, shallow-turn}
use Rattle.ap_spec.proofs.Turns.{taken-all}
use Rattle.ap_spec.proofs.searches.answers_from.Goals as goal

pub loop-tuples-smaller-then-s-d : goal.loop-tuples-smaller-then-s-d
loop-tuples-smaller-then-s-d c =
    let e : state_of c.in-Some.s ∷ c.emit.new.stack ≡ behind_answers c.loop-tuples.stack = rw c.in-Some.is at c.in_ok-s.ensures.taken in
    weight-cut (rules_of c.args.rules.now) c.args.d _ _ _ e

pub loop-tuples-preserved-then-s-d : goal.loop-tuples-preserved-then-s-d
loop-tuples-preserved-then-s-d c =
    let e : state_of c.in-Some.s ∷ c.emit.new.stack ≡ behind_answers c.loop-tuples.stack = rw c.in-Some.is at c.in_ok-s.ensures.taken in
    let le : c.args.d ≤ c.in-Some.s.steps = omega arith in
    let open_one : has_goals (state_of c.in-Some.s) ≡ true = sym c.has_goals.ensures ∙ c.if-not-has_goals.false in
    record {
      whole = all-cut (rules_of c.args.rules.now) c.args.d _ _ _ _ _ _ e open_one le c.in_ok-s.ensures.emitted c.loop-tuples.invariant.whole;
      shallow = All-tail (IsShallow c.args.d) _ _ (taken-all (IsShallow c.args.d) _ _ _ e c.loop-tuples.invariant.shallow);
    }

pub children_by_rules-requires-clause-room : goal.children_by_rules-requires-clause-room
children_by_rules-requires-clause-room c =
    let e : state_of c.in-Some.s ∷ c.emit.new.stack ≡ behind_answers c.loop-tuples.stack = rw c.in-Some.is at c.in_ok-s.ensures.taken in
    let v = (All-head (IsShallow c.args.d) _ _ (taken-all (IsShallow c.args.d) _ _ _ e c.loop-tuples.invariant.shallow)).vars in
    omega arith

pub loop-tuples-smaller : goal.loop-tuples-smaller
loop-tuples-smaller c =
    let p = rules_of c.args.rules.now in
    let e : state_of c.in-Some.s ∷ c.emit.new.stack ≡ behind_answers c.loop-tuples.stack = rw c.in-Some.is at c.in_ok-s.ensures.taken in
    let lt : c.in-Some.s.steps < c.args.d = omega arith in
    let after : c.put_before.new.stack ≡ children p (state_of c.in-Some.s) ++ c.emit.new.stack = rw c.in_ok-children_by_rules.ensures at c.in_ok-put_before.ensures in
    subst (λ ss. weight p c.args.d ss < weight p c.args.d c.loop-tuples.stack) (sym after) (weight-turn p c.args.d _ _ _ e lt)

pub loop-tuples-preserved : goal.loop-tuples-preserved
loop-tuples-preserved c =
    let p = rules_of c.args.rules.now in
    let e : state_of c.in-Some.s ∷ c.emit.new.stack ≡ behind_answers c.loop-tuples.stack = rw c.in-Some.is at c.in_ok-s.ensures.taken in
    let lt : c.in-Some.s.steps < c.args.d = omega arith in
    let open_one : has_goals (state_of c.in-Some.s) ≡ true = sym c.has_goals.ensures ∙ c.if-not-has_goals.false in
    let after : c.put_before.new.stack ≡ children p (state_of c.in-Some.s) ++ c.emit.new.stack = rw c.in_ok-children_by_rules.ensures at c.in_ok-put_before.ensures in
    record {
      whole =
          ap (λ ss. with_tuples c.emit.new.answers (answers_of_all p ss c.args.d)) after
          ∙ all-turn p c.args.d _ _ _ _ _ _ e open_one lt c.in_ok-s.ensures.emitted c.loop-tuples.invariant.whole;
      shallow =
          subst (All (IsShallow c.args.d)) (sym after)
          (shallow-turn p c.args.d (state_of c.in-Some.s) _ c.requires.clauses lt (taken-all (IsShallow c.args.d) _ _ _ e c.loop-tuples.invariant.shallow));
    }

pub returns : goal.returns
returns c =
    let e : [] ≡ behind_answers c.loop-tuples.stack = rw c.in_default.is at c.in_ok-s.ensures.taken in
    all-ended (rules_of c.args.rules.now) c.args.d _ _ _ _ e c.in_ok-s.ensures.emitted c.loop-tuples.invariant.whole

pub returns-then-not-has_goals : goal.returns-then-not-has_goals
returns-then-not-has_goals c =
    let e : state_of c.in-Some.s ∷ c.emit.new.stack ≡ behind_answers c.loop-tuples.stack = rw c.in-Some.is at c.in_ok-s.ensures.taken in
    let ended : has_goals (state_of c.in-Some.s) ≡ false = sym c.has_goals.ensures ∙ c.if-not-has_goals.true in
    all-fault (rules_of c.args.rules.now) c.args.d _ _ _ _ _ _ e ended c.in_ok-s.ensures.emitted c.loop-tuples.invariant.whole
