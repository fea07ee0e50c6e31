use Rattle.std.proofs.Common.{rules, ◌≡◌, [], ◌∷◌, ◌++◌}
use Rattle.ap_reader.specs.declared.pass.Open.TheVariants as frame
use Rattle.ap_reader.proofs.Stack.{closed_call}
use Rattle.ap_reader.proofs.pass.Pass.close.Goals as goal

pub returns-in_ok-push-in-Some-Call : goal.returns-in_ok-push-in-Some-Call
returns-in_ok-push-in-Some-Call c = λ gone t s h.
    let top : c.args.self.now.stack.items ≡ c.pop.new.self.items ++ frame.Call c.in-Some-Call.at ∷ [] = search rules in
    closed_call gone c.args.self.now.out.items _ t s _ _ c.in-Some-Call.at h top c.in_ok-push-in-Some-Call.ensures.items
