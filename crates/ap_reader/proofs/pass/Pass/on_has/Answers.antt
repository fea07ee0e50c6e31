use Rattle.std.proofs.Common.{◌≡◌, ◌++◌, ◌∙◌, ap, sym, subst}
use Rattle.ap_reader.specs.Operator.{left_max}
use Rattle.ap_reader.specs.Grammar.{infix_rank}
use Rattle.ap_reader.specs.Machine.{on_has, reduced, parted, barred, closed, list_closed, shifted}
use Rattle.ap_reader.specs.Step.{Follows}
use Rattle.ap_reader.proofs.Stack.{after_reduced, is_shifted}
use Rattle.ap_reader.proofs.pass.Pass.on_has.Goals as goal

pub returns-in_ok-reduce-in-Operator : goal.returns-in_ok-reduce-in-Operator
returns-in_ok-reduce-in-Operator c = λ gone t s h.
    let new = c.shift.new.self in
    let word = c.args.word in
    let most : c.left_max.result ≡ left_max (infix_rank word) = c.left_max.ensures ∙ ap left_max c.infix_rank.ensures in
    let same : on_has t s word ≡ shifted word (reduced c.left_max.result t s) = is_shifted t s word c.in-Operator.is ∙ ap (λ m. shifted word (reduced m t s)) (sym most) in
    subst (λ x. Follows x c.shift.result new.stack.items (gone ++ new.out.items)) (sym same)
    (after_reduced (reduced c.left_max.result t s) (shifted word) c.shift.result c.reduce.new.self.stack.items new.stack.items (gone ++ c.reduce.new.self.out.items) (gone ++ new.out.items)
    (c.in_ok-reduce-in-Operator.ensures.done gone t s h) (c.shift.ensures gone))

pub returns-in_ok-reduce-in-Comma : goal.returns-in_ok-reduce-in-Comma
returns-in_ok-reduce-in-Comma c = λ gone t s h.
    let new = c.comma.new.self in
    subst (λ w. Follows (on_has t s w) c.comma.result new.stack.items (gone ++ new.out.items)) (sym c.in-Comma.is)
    (after_reduced (reduced 999 t s) (parted c.in-Comma.at) c.comma.result c.reduce-in-Comma.new.self.stack.items new.stack.items (gone ++ c.reduce-in-Comma.new.self.out.items) (gone ++ new.out.items)
    (c.in_ok-reduce-in-Comma.ensures.done gone t s h) (c.comma.ensures gone))

pub returns-in_ok-reduce-in-Bar : goal.returns-in_ok-reduce-in-Bar
returns-in_ok-reduce-in-Bar c = λ gone t s h.
    let new = c.bar.new.self in
    subst (λ w. Follows (on_has t s w) c.bar.result new.stack.items (gone ++ new.out.items)) (sym c.in-Bar.is)
    (after_reduced (reduced 999 t s) barred c.bar.result c.reduce-in-Bar.new.self.stack.items new.stack.items (gone ++ c.reduce-in-Bar.new.self.out.items) (gone ++ new.out.items)
    (c.in_ok-reduce-in-Bar.ensures.done gone t s h) (c.bar.ensures gone))

pub returns-in_ok-reduce-in-Close : goal.returns-in_ok-reduce-in-Close
returns-in_ok-reduce-in-Close c = λ gone t s h.
    let new = c.close.new.self in
    subst (λ w. Follows (on_has t s w) c.close.result new.stack.items (gone ++ new.out.items)) (sym c.in-Close.is)
    (after_reduced (reduced 1200 t s) closed c.close.result c.reduce-in-Close.new.self.stack.items new.stack.items (gone ++ c.reduce-in-Close.new.self.out.items) (gone ++ new.out.items)
    (c.in_ok-reduce-in-Close.ensures.done gone t s h) (c.close.ensures gone))

pub returns-in_ok-reduce-in-CloseList : goal.returns-in_ok-reduce-in-CloseList
returns-in_ok-reduce-in-CloseList c = λ gone t s h.
    let new = c.close_list.new.self in
    subst (λ w. Follows (on_has t s w) c.close_list.result new.stack.items (gone ++ new.out.items)) (sym c.in-CloseList.is)
    (after_reduced (reduced 999 t s) list_closed c.close_list.result c.reduce-in-CloseList.new.self.stack.items new.stack.items (gone ++ c.reduce-in-CloseList.new.self.out.items) (gone ++ new.out.items)
    (c.in_ok-reduce-in-CloseList.ensures.done gone t s h) (c.close_list.ensures gone))
