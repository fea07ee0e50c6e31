use Rattle.std.proofs.Common.{◌≡◌, ◌<◌, ◌≤◌, ◌+◌, ◌-◌, ◌*◌, ◌∷◌, ◌++◌, [], true, false, ap, subst, sym, ◌∙◌, arith}
use Rattle.std.specs.List.{All}
use Rattle.ap_term.specs.Search.{search, children}
use Rattle.ap_spec.specs.Searches.{IsWithin, with_answers, has_goals, behind_answers}
use Rattle.ap_spec.specs.States.{state_of, rules_of}
use Rattle.ap_spec.proofs.Turns.{first-within, turn-within, total-turn, total-ended, total-fault, total-spent}
use Rattle.ap_spec.proofs.searches.search_from.Goals as goal

pub children_by_rules-requires-clause-room : goal.children_by_rules-requires-clause-room
children_by_rules-requires-clause-room c =
    let e : state_of c.in-Some.s ∷ c.emit.new.stack ≡ behind_answers c.loop-answers.stack = rw c.in-Some.is at c.in_ok-s.ensures.taken in
    let v = (first-within _ _ _ _ _ e c.loop-answers.invariant.within).vars in
    omega arith

pub children_by_rules-requires-clause-counts : goal.children_by_rules-requires-clause-counts
children_by_rules-requires-clause-counts c =
    let e : state_of c.in-Some.s ∷ c.emit.new.stack ≡ behind_answers c.loop-answers.stack = rw c.in-Some.is at c.in_ok-s.ensures.taken in
    let v = (first-within _ _ _ _ _ e c.loop-answers.invariant.within).calls in
    omega arith

pub loop-answers-preserved : goal.loop-answers-preserved
loop-answers-preserved c =
    let p = rules_of c.args.rules.now in
    let left = c.loop-answers.left in
    let t = state_of c.in-Some.s in
    let lt : 0 < left = omega arith in
    let open_one : has_goals t ≡ true = sym c.has_goals.ensures ∙ c.if-not-has_goals.false in
    let le : left ≤ c.args.n = c.loop-answers.invariant.fewer in
    let e : t ∷ c.emit.new.stack ≡ behind_answers c.loop-answers.stack = rw c.in-Some.is at c.in_ok-s.ensures.taken in
    let after : c.put_before.new.stack ≡ children p t ++ c.emit.new.stack = rw c.in_ok-children_by_rules.ensures at c.in_ok-put_before.ensures in
    let total = total-turn p left _ t _ _ c.emit.new.answers (search p c.args.n c.args.stack) lt e open_one c.in_ok-s.ensures.emitted c.loop-answers.invariant.total in
    let within = turn-within p c.args.n left _ t _ lt le e c.requires.clauses c.loop-answers.invariant.within in record {
      fewer = omega arith;
      total = subst (λ ss. with_answers c.emit.new.answers (search p (left - 1) ss) ≡ search p c.args.n c.args.stack) (sym after) total;
      within = subst (All (IsWithin (256 + 256 * (c.args.n - (left - 1))) (c.args.n - (left - 1)))) (sym after) within;
    }

pub returns : goal.returns
returns c =
    let e : [] ≡ behind_answers c.loop-answers.stack = rw c.in_default.is at c.in_ok-s.ensures.taken in
    total-ended (rules_of c.args.rules.now) c.loop-answers.left _ _ _ _ e c.in_ok-s.ensures.emitted c.loop-answers.invariant.total

pub returns-then-not-has_goals : goal.returns-then-not-has_goals
returns-then-not-has_goals c =
    let e : state_of c.in-Some.s ∷ c.emit.new.stack ≡ behind_answers c.loop-answers.stack = rw c.in-Some.is at c.in_ok-s.ensures.taken in
    let ended : has_goals (state_of c.in-Some.s) ≡ false = sym c.has_goals.ensures ∙ c.if-not-has_goals.true in
    total-fault (rules_of c.args.rules.now) c.loop-answers.left _ _ _ _ _ _ e ended c.in_ok-s.ensures.emitted c.loop-answers.invariant.total

pub returns-then-left-eq0 : goal.returns-then-left-eq0
returns-then-left-eq0 c =
    let p = rules_of c.args.rules.now in
    let e : state_of c.in-Some.s ∷ c.emit.new.stack ≡ behind_answers c.loop-answers.stack = rw c.in-Some.is at c.in_ok-s.ensures.taken in
    let open_one : has_goals (state_of c.in-Some.s) ≡ true = sym c.has_goals.ensures ∙ c.if-not-has_goals.false in
    let spent : c.loop-answers.left ≡ 0 = c.if-left-eq0.true in
    total-spent p _ _ _ _ _ _ e open_one c.in_ok-s.ensures.emitted
    (ap (λ n. with_answers c.loop-answers.answers (search p n c.loop-answers.stack)) (sym spent) ∙ c.loop-answers.invariant.total)
