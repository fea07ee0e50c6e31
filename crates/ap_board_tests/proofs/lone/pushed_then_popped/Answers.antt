use Rattle.std.proofs.Common.{◌≡◌, ◌∙◌, ap, rules, true, [], ◌∷◌, ◌++◌}
use Rattle.ap_goalstack.specs.declared.view.Hand.{Hand}
use Rattle.ap_goalstack.specs.Stack.{hand}
use Rattle.ap_goalstack.specs.Hands.{stack_hand}
use Rattle.ap_board_tests.proofs.Alone.{the_only}
use Rattle.ap_board_tests.proofs.lone.pushed_then_popped.Goals as goal

pub returns : goal.returns
returns c = let first : stack_hand c.in_ok-stack.stack ≡ hand true [] [] = c.in_ok-stack.ensures.0 in
    let is = c.in-Ok.ensures.pushed ∙ ap (λ (h : Hand). hand true (h.pushed ++ c.args.ticket ∷ []) h.took) first in
    let e = the_only _ _ _ _ is c.in-Some.ensures.popped in search rules
