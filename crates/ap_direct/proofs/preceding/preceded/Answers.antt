use Rattle.std.proofs.Common.{refl, subst}
use Rattle.std.specs.Prelude.{IfSome}
use Rattle.ap_direct.specs.Before.{IsBefore}
use Rattle.ap_direct.proofs.Found.{asks_before}
use Rattle.ap_direct.proofs.preceding.preceded.Goals as goal

pub returns-in-Some : goal.returns-in-Some
returns-in-Some c =
    asks_before c.args.code.now c.args.at c.args.placed.register c.args.placed.to c.args.placed.put c.args.direct
    (record { goal = c.in-Some.goal; to = c.args.direct.to; structures = c.structures_with-structures.result })
    c.requires.puts c.requires.unseen c.requires.asks refl
    (subst (λ o. IfSome o (λ g. IsBefore c.args.placed.register c.args.placed.put c.args.direct.goal g)) c.in-Some.is c.in_ok-goal.ensures)
