use Rattle.std.proofs.Common.{◌≡◌, slice_get, Some, None, sym, ◌∙◌, rules}
use Rattle.std.proofs.lemmas.List.Elements.{All-nil}
use Rattle.ap_reach.specs.Reached.{BodyIsAmong}
use Rattle.ap_reach.proofs.Naming.{extends_none, extends_on, find_turn, find_done}
use Rattle.ap_reach.proofs.reaching.find.Goals as goal

pub loop-number-init : goal.loop-number-init
loop-number-init c = (extends_none c.args.calls.now, All-nil (BodyIsAmong c.args.program.now c.args.calls.now))

pub loop-number-preserved : goal.loop-number-preserved
loop-number-preserved c =
    let ks = c.loop-number.calls in
    let ls = c.add_calls.new.calls in
    let at : slice_get ks c.loop-number.number ≡ Some c.in-Some.call = sym c.at.ensures.at ∙ c.in-Some.is in (
      extends_on c.args.calls.now ks ls c.loop-number.invariant.0 c.in_ok-add_calls.ensures.extends,
      find_turn ks ls c.loop-number.number c.in-Some.call c.args.program.now c.in_ok-add_calls.ensures.extends at c.in_ok-add_calls.ensures.among c.loop-number.invariant.1,
    )

pub returns-in_default-clause-among : goal.returns-in_default-clause-among
returns-in_default-clause-among c =
    let at : slice_get c.loop-number.calls c.loop-number.number ≡ None = sym c.at.ensures.at ∙ search rules in
    find_done c.loop-number.calls c.loop-number.number c.args.program.now at c.loop-number.invariant.1
