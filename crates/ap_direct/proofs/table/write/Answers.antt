use Rattle.std.proofs.Common.{sym, subst, arith}
use Rattle.std.specs.Prelude.{IfSome}
use Rattle.ap_direct.specs.Goals.{AsksFirst}
use Rattle.ap_direct.proofs.Asked.{set_asked, set_before}
use Rattle.ap_direct.proofs.table.write.Goals as goal

pub returns-clause-asked : goal.returns-clause-asked
returns-clause-asked c =
    set_asked c.args.code.now c.args.goals.now.items c.args.at c.replace-before.new.dest c.requires.within
    (subst (λ o. IfSome o (λ d. AsksFirst c.args.code.now c.args.at d.value)) (sym c.replace-before.ensures.after) c.requires.found) c.requires.asked

pub returns-clause-before : goal.returns-clause-before
returns-clause-before c = set_before c.args.goals.now.items c.args.at c.args.at c.replace-before.new.dest (omega arith)
