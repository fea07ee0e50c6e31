use Rattle.std.proofs.Common.{◌≡◌, [], ap, arith, rules}
use Rattle.std.proofs.lemmas.Grind.{common_steps}
use Rattle.ap_worker.specs.Totals.{shares_of, shares_in}
use Rattle.ap_worker.proofs.solving.gathered.Goals as goal

pub loop-worker-init : goal.loop-worker-init
loop-worker-init c =
    let gives : c.into_iter-worker-iterator.result.rest.items ≡ c.args.others.items = search rules in
    let same = ap shares_in gives in
    record { all = omega arith; few = omega arith }

pub loop-worker-preserved : goal.loop-worker-preserved
loop-worker-preserved c = let more = ap shares_in c.in-Some.ensures.steps.0 in record { all = omega arith; few = omega arith }

pub returns-clause-all : goal.returns-clause-all
returns-clause-all c =
    let none : c.loop-worker.worker-iterator.rest.items ≡ [] = grind (arith, common_steps, c.in-None.ensures.steps, c.in-None.ensures.goes, c.loop-worker.worker-iterator.rest.ok) in
    let same = ap shares_in none in
    omega arith

pub returns-clause-least : goal.returns-clause-least
returns-clause-least c =
    let none : c.loop-worker.worker-iterator.rest.items ≡ [] = grind (arith, common_steps, c.in-None.ensures.steps, c.in-None.ensures.goes, c.loop-worker.worker-iterator.rest.ok) in
    let same = ap shares_in none in
    omega arith

pub returns-clause-alone : goal.returns-clause-alone
returns-clause-alone c = λ e f.
    let others = ap shares_in e in
    let taken = ap shares_of f in
    let none : c.loop-worker.worker-iterator.rest.items ≡ [] = grind (arith, common_steps, c.in-None.ensures.steps, c.in-None.ensures.goes, c.loop-worker.worker-iterator.rest.ok) in
    let same = ap shares_in none in
    omega arith
