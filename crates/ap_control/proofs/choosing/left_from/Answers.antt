use Rattle.std.proofs.Common.{◌≡◌, ◌+◌, ◌≤◌, Some, length, refl, ap, sym, ◌∙◌, subst, arith}
use Rattle.ap_steps.specs.Moves.{held}
use Rattle.ap_standing.specs.Machine.{places_from}
use Rattle.ap_control.specs.Heads.{IsShut, PassesOver}
use Rattle.ap_control.specs.Taking.{CanTake}
use Rattle.ap_control.specs.Choosing.{IsChance, left_places}
use Rattle.ap_control.proofs.Keys.{places_from-choice}
use Rattle.ap_control.proofs.Passed.{passes-none, passes-one, passes-then, passes-shorter, passes-left}
use Rattle.ap_control.proofs.choosing.left_from.Goals as goal

pub loop-rest-preserved : goal.loop-rest-preserved
loop-rest-preserved c =
    let code = c.args.sound.now in
    let cs = c.args.cells.now.cells in
    let x = held c.args.x.now in
    let choice = c.in-Some-choice.choice.now in
    let ls = places_from code c.args.from in
    let rest = places_from code c.loop-rest.rest in
    let behind = places_from code choice.named.behind in
    let shut : IsShut code cs x choice.named.place = subst (IsChance code cs x c.args.arity choice.named.place) c.in-Never.is (c.chance_of.ensures code c.in-Some-choice.ensures.is) in
    passes-then code cs x ls behind (places_from code c.next_choice-rest.result)
    (passes-then code cs x ls rest behind c.loop-rest.invariant (passes-one code cs x rest behind choice.named.place (places_from-choice code c.in-Some.at c.in-Some-choice.choice.now c.in-Some-choice.ensures c.loop-rest.rest c.in-Some.is c.if-choice.false) shut)) (c.next_choice-rest.ensures cs x c.requires.known.0.1)

pub loop-rest-smaller : goal.loop-rest-smaller
loop-rest-smaller c =
    let code = c.args.sound.now in
    let cs = c.args.cells.now.cells in
    let x = held c.args.x.now in
    let behind = places_from code c.in-Some-choice.choice.now.named.behind in
    let rest = places_from code c.loop-rest.rest in
    let more = places_from code c.next_choice-rest.result in
    let few : length more ≤ length behind = passes-shorter code cs x behind more (c.next_choice-rest.ensures cs x c.requires.known.0.1) in
    let one : length rest ≡ length behind + 1 = ap length (places_from-choice code c.in-Some.at c.in-Some-choice.choice.now c.in-Some-choice.ensures c.loop-rest.rest c.in-Some.is c.if-choice.false) ∙ (omega arith) in
    omega (arith, few, one)

pub loop-rest-init : goal.loop-rest-init
loop-rest-init c = passes-none c.args.sound.now c.args.cells.now.cells (held c.args.x.now) (places_from c.args.sound.now c.args.from) (places_from c.args.sound.now c.args.from) refl

pub returns-in_default-chance_of : goal.returns-in_default-chance_of
returns-in_default-chance_of c =
    let code = c.args.sound.now in
    let cs = c.args.cells.now.cells in
    let x = held c.args.x.now in
    let n = c.args.arity in
    let choice = c.in-Some-choice.choice.now in
    let place = choice.named.place in
    record {
      passes =
          passes-left code cs x (places_from code c.args.from) c.left_at.result place choice.named.behind c.left_at.ensures.place c.left_at.ensures.behind
          (subst (PassesOver code cs x (places_from code c.args.from)) (places_from-choice code c.in-Some.at choice c.in-Some-choice.ensures c.loop-rest.rest c.in-Some.is c.if-choice.false) c.loop-rest.invariant);
      rest = c.left_at.ensures.rest cs x c.requires.known.0.1;
      sure = λ e z alike. subst (CanTake code cs z) (sym c.left_at.ensures.place)
          (c.is_sure.ensures code cs x n place (c.chance_of.ensures code c.in-Some-choice.ensures.is) (sym c.left_at.ensures.sure ∙ e) z alike);
    }

pub returns-in_default-choice-clause-passes : goal.returns-in_default-choice-clause-passes
returns-in_default-choice-clause-passes c =
    let code = c.args.sound.now in
    let cs = c.args.cells.now.cells in
    let x = held c.args.x.now in
    passes-then code cs x (places_from code c.args.from) (places_from code (Some c.in-Some.at)) (left_places code c.left_unknown.result)
    (subst (λ rest. PassesOver code cs x (places_from code c.args.from) (places_from code rest)) c.in-Some.is c.loop-rest.invariant) (c.left_unknown.ensures.passes cs x)

pub returns-then-choice-clause-passes : goal.returns-then-choice-clause-passes
returns-then-choice-clause-passes c =
    let code = c.args.sound.now in
    let cs = c.args.cells.now.cells in
    let x = held c.args.x.now in
    passes-then code cs x (places_from code c.args.from) (places_from code (Some c.in-Some.at)) (left_places code c.left_unknown-then-choice.result)
    (subst (λ rest. PassesOver code cs x (places_from code c.args.from) (places_from code rest)) c.in-Some.is c.loop-rest.invariant) (c.left_unknown-then-choice.ensures.passes cs x)
