use Rattle.std.proofs.Common.{rules, ◌≡◌, [], ◌∷◌, ◌++◌}
use Rattle.ap_reader.specs.declared.pass.Open.TheVariants as frame
use Rattle.ap_reader.proofs.Stack.{closed_list, closed_tail}
use Rattle.ap_reader.proofs.pass.Pass.close_list.Goals as goal

pub returns-in_ok-push-in-Some-List : goal.returns-in_ok-push-in-Some-List
returns-in_ok-push-in-Some-List c = λ gone t s h.
    let top : c.args.self.now.stack.items ≡ c.pop.new.self.items ++ frame.List c.in-Some-List.field-0-0 ∷ [] = search rules in
    closed_list gone c.args.self.now.out.items _ t s _ _ c.in-Some-List.field-0-0 h top c.in_ok-push-in-Some-List.ensures.items

pub returns-in_ok-push-in-Some-Tail : goal.returns-in_ok-push-in-Some-Tail
returns-in_ok-push-in-Some-Tail c = λ gone t s h.
    let top : c.args.self.now.stack.items ≡ c.pop.new.self.items ++ frame.Tail ∷ [] = search rules in
    closed_tail gone c.args.self.now.out.items _ t s _ _ h top c.in_ok-push-in-Some-Tail.ensures.items
