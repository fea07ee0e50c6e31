use Rattle.std.proofs.Common.{Some, inr, sym, ◌∙◌, subst}
use Rattle.ap_instr.specs.StandsFor.{clause_places}
use Rattle.ap_index.specs.Index.{named_from}
use Rattle.ap_index.specs.declared.row.Pair.TheVariants.{Never, Only}
use Rattle.ap_steps.specs.Moves.{held}
use Rattle.ap_control.specs.Heads.{PassesOver}
use Rattle.ap_control.specs.Choosing.{IsPairTold}
use Rattle.ap_control.proofs.Keys.{row-passes, row-only, row-told}
use Rattle.ap_control.proofs.telling.told_by.Goals as goal

pub returns-in-Some : goal.returns-in-Some
returns-in-Some c = λ code q row key. row-only code c.args.cells.now.cells (held c.args.x.now) q c.args.row.now c.args.own row key c.in-Some.place (sym c.only.ensures ∙ c.in-Some.is)

pub returns-in-Never : goal.returns-in-Never
returns-in-Never c = λ code q row key.
    let cs = c.args.cells.now.cells in
    let x = held c.args.x.now in
    row-told code cs x q c.args.row.now Never row (subst (IsPairTold code cs x (named_from code (Some q.start))) c.in-Never.is (c.told_by_two.ensures code (named_from code (Some q.start)) row.pairs key))

pub returns-in-Only : goal.returns-in-Only
returns-in-Only c = λ code q row key.
    let cs = c.args.cells.now.cells in
    let x = held c.args.x.now in
    row-told code cs x q c.args.row.now (Only c.in-Only.place) row
    (subst (IsPairTold code cs x (named_from code (Some q.start))) c.in-Only.is (c.told_by_two.ensures code (named_from code (Some q.start)) row.pairs key))

pub returns-in-Some-first : goal.returns-in-Some-first
returns-in-Some-first c = λ code q row key.
    inr
    (subst (λ at. PassesOver code c.args.cells.now.cells (held c.args.x.now) (clause_places code q) (named_from code at)) (sym c.first.ensures ∙ c.in-Some-first.is)
    (row-passes code c.args.cells.now.cells (held c.args.x.now) q c.args.row.now c.args.own row key))

pub returns-in-None : goal.returns-in-None
returns-in-None c = λ code q row key.
    subst (λ at. PassesOver code c.args.cells.now.cells (held c.args.x.now) (clause_places code q) (named_from code at)) (sym c.first.ensures ∙ c.in-None.is)
    (row-passes code c.args.cells.now.cells (held c.args.x.now) q c.args.row.now c.args.own row key)
