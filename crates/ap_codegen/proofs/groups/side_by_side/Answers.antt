use Rattle.std.proofs.Common.{◌≡◌, ◌+◌, ◌++◌, length, ap, ◌∙◌, arith}
use Rattle.ap_codegen.proofs.PartLeads.{begun_written}
use Rattle.ap_codegen.proofs.groups.side_by_side.Goals as goal

pub returns-clause-written : goal.returns-clause-written
returns-clause-written c =
    let n : c.in_ok-above.field-0 ≡ 1 + length c.in_ok-goals.goals.items = omega (arith, c.in_ok-above.ensures, c.len.ensures, c.in_ok-goals.goals.ok.0) in
    begun_written c.new-code.result.items c.in_ok-goals.goals.items c.append.new.self.items c.args.calls.now c.args.seen.now.items c.in_ok-count.field-0 c.in_ok-above.field-0 c.new-code.ensures.items c.in_ok-goals.ensures.leads
    c.in_ok-goals.ensures.numbered c.in_ok-count.ensures n (c.in_ok-append.ensures.items ∙ ap (λ es. es ++ c.in_ok-goals.goals.items) c.in_ok-push.ensures.items)
