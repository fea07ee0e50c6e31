use Rattle.std.proofs.Common.{rules, ◌≡◌, sym, ◌∙◌, length}
use Rattle.std.specs.Prelude.{MatchOption}
use Rattle.ap_reader.specs.Step.{innermost}
use Rattle.ap_reader.specs.declared.pass.Around.TheVariants as around
use Rattle.ap_reader.proofs.Stack.{item_of_list, popped}
use Rattle.ap_reader.proofs.pass.Pass.comma.Goals as goal

pub returns-in_ok-push-in-List-2 : goal.returns-in_ok-push-in-List-2
returns-in_ok-push-in-List-2 c = λ gone t s h.
    let stack = c.args.self.now.stack in
    let where_it_is : innermost s ≡ around.List = sym (c.innermost.ensures s (c.deref.ensures.value ∙ h.stack_is)) ∙ c.in-List.is in
    let empty : MatchOption c.pop-open.result (length stack.items ≡ 0) (λ x. Unit {0}) = search rules in
    item_of_list gone c.args.self.now.out.items _ t s stack.items c.pop-open.new.self.items _ c.args.at h where_it_is
    (λ base top. popped stack.items c.pop-open.new.self.items base c.pop-open.result top empty c.pop-open.ensures.items)
    c.in_ok-push-in-List.ensures.items c.in_ok-push-in-List-2.ensures.items
