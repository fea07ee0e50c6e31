use Rattle.ap_lifting.proofs.Kept.{clause_kept}
use Rattle.std.proofs.Common.{slice_index, subst, sym}
use Rattle.ap_term.specs.WellFormed.{IsClause}
use Rattle.ap_lifting.proofs.lifter.Origin.clause.Goals as goal

pub new-requires : goal.new-requires
new-requires c =
    let o = c.args.self.now in
    subst (λ h. IsClause (record { head = h; body = c.args.body; vars = o.vars; line = o.line })) (sym c.in_ok-head.ensures)
    (clause_kept (λ n. slice_index o.names.now n) o.vars o.line c.requires.few c.args.number c.args.body c.requires.body)
