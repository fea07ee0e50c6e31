use Rattle.std.proofs.Common.{◌≡◌, length, refl, subst, arith, rules}
use Rattle.ap_outside.proofs.Halts.{finishes_map}
use Rattle.ap_term.specs.AtomTable.{fixed_names}
use Rattle.ap_clause.specs.Reads.{AcceptsProgram, RefusesProgram}
use Rattle.ap_clause.specs.declared.refusal.Refusal.TheVariants as refusal
use Rattle.ap_top.specs.Single.{FirstEnds, SingleEnds}
use Rattle.ap_top.proofs.Pieces.{refused}
use Rattle.ap_top.proofs.FirstQuery.{program-refused, single-counted}
use Rattle.ap_top.proofs.Uncalled.{program-leaves}
use Rattle.ap_top.proofs.single.answer.Goals as goal

pub answer_first-requires-clause-query : goal.answer_first-requires-clause-query
answer_first-requires-clause-query g c κs within =
    let program = c.in-Ok-program.program in
    let table = c.program.new.atoms in
    let count : length fixed_names ≡ 84 = refl in
    program-leaves c.args.text.now fixed_names program table (omega arith) (subst (λ t. AcceptsProgram c.args.text.now t program table) c.in-Ok.ensures c.in-Ok-program.ensures.accepts)

pub returns-in-Ok-program-clause-lines : goal.returns-in-Ok-program-clause-lines
returns-in-Ok-program-clause-lines g c =
    let b = c.args.bounds.budget in
    let n = c.args.bounds.answers in
    let program = c.in-Ok-program.program in
    let table = c.program.new.atoms in
    let accepts : AcceptsProgram c.args.text.now fixed_names program table = subst (λ t. AcceptsProgram c.args.text.now t program table) c.in-Ok.ensures c.in-Ok-program.ensures.accepts in
    finishes_map _ _ (FirstEnds b n program table c.args.queries.now) (SingleEnds b n c.args.text.now c.args.queries.now) _ (λ e ls ends. SingleEnds.accepted program table e ls accepts ends) c.answer_first.ensures.lines

pub returns-in-Ok-program-clause-counted : goal.returns-in-Ok-program-clause-counted
returns-in-Ok-program-clause-counted g c =
    let program = c.in-Ok-program.program in
    let table = c.program.new.atoms in
    let accepts : AcceptsProgram c.args.text.now fixed_names program table = subst (λ t. AcceptsProgram c.args.text.now t program table) c.in-Ok.ensures c.in-Ok-program.ensures.accepts in
    single-counted c.args.bounds.kind c.args.bounds.budget c.args.bounds.answers c.args.text.now c.args.queries.now program table _ _ c.answer_first.result accepts c.answer_first.ensures.counted

pub returns : goal.returns
returns g c =
    let r = c.in-Err._refusal in
    let other : r ≡ refusal.NoMemory → ⊥ = search rules in
    let refuses : RefusesProgram c.args.text.now fixed_names r = subst (λ t. RefusesProgram c.args.text.now t r) c.in-Ok.ensures (refused (RefusesProgram c.args.text.now c.in-Ok.atoms) r other c.in-Err.ensures.refuses) in
    record {
      lines = program-refused c.args.bounds.budget c.args.bounds.answers c.args.text.now c.args.queries.now _ r refuses;
      counted = search rules;
      total = search rules;
      one = search rules;
      count = search rules;
    }
