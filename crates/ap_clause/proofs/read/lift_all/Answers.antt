use Rattle.std.proofs.Common.{length, ap, ◌∙◌, arith}
use Rattle.std.specs.Prelude.{slice_index}
use Rattle.ap_lifting.specs.Lifted.{lifted_program}
use Rattle.ap_clause.proofs.Names.{length-atoms_from}
use Rattle.ap_clause.proofs.read.lift_all.Goals as goal

pub lift_program-requires : goal.lift_program-requires
lift_program-requires c =
    let all = c.requires.counted in
    let named = c.in-Ok.ensures in
    omega (arith, all.1, named.2, ap length named.4, ap length c.deref.ensures.value, length-atoms_from (length c.args.atoms.now) named.0)

pub returns-in-Ok-lift_program-clause-lifts : goal.returns-in-Ok-lift_program-clause-lifts
returns-in-Ok-lift_program-clause-lifts c =
    let named = c.in-Ok.ensures in (
      named.0,
      named.1,
      named.2,
      c.in-Ok-lift_program.ensures ∙ ap (λ l. lifted_program (slice_index l) c.args.rules.items) (c.deref.ensures.value ∙ named.4),
      named.3,
    )
