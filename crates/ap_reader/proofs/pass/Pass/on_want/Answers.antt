use Rattle.std.proofs.Common.{◌++◌, sym, subst}
use Rattle.ap_reader.specs.Machine.{prefixed, on_want}
use Rattle.ap_reader.specs.Step.{Follows}
use Rattle.ap_reader.proofs.pass.Pass.on_want.Goals as goal

pub returns-in-Operator : goal.returns-in-Operator
returns-in-Operator c = λ gone s h.
    let new = c.prefix.new.self in
    subst (λ w. Follows (on_want s w) c.prefix.result new.stack.items (gone ++ new.out.items)) (sym c.in-Operator.is)
    (subst (λ w. Follows (prefixed w s) c.prefix.result new.stack.items (gone ++ new.out.items)) c.in-Operator.is (c.prefix.ensures gone s h))
