use Rattle.std.proofs.Common.{◌≡◌, ◌+◌, Bor, Vec, Global, length, ap, ◌∙◌, arith, rules}
use Rattle.ap_term.specs.Goals.{Clause}
use Rattle.ap_instr.specs.declared.instruction.Instr.{Instr}
use Rattle.ap_codegen.proofs.Growing.{grows_on}
use Rattle.ap_codegen.proofs.Laying.{length_both}
use Rattle.ap_codegen.proofs.Making.{codes_turn, place_turn, codes_end}
use Rattle.ap_codegen.proofs.programs.clause_codes.Goals as goal

pub loop-clause-preserved : goal.loop-clause-preserved
loop-clause-preserved c =
    let count : length c.push.new.self.items ≡ length c.loop-clause.codes.items + 1 = ap length c.in_ok-push.ensures.items ∙ length_both c.loop-clause.codes.items _ in
    let place = c.loop-clause.invariant.1 in
    let long : c.len.result ≡ length c.in_ok-code.code.items = search rules in (
      grows_on c.args.tables.now c.loop-clause.tables c.clause_code.new.tables c.loop-clause.invariant.0 c.in_ok-code.ensures.grows,
      omega (arith, count, place),
      c.in_ok-at.ensures
          ∙ ap (λ n. c.loop-clause.at + n) long
          ∙ place_turn (λ (r : Bor Clause). r.now) (λ (v : Vec Instr Global). v.items) c.loop-clause.codes.items c.push.new.self.items c.in_ok-code.code c.args.first c.loop-clause.at c.in_ok-push.ensures.items c.loop-clause.invariant.2,
      codes_turn (λ (r : Bor Clause). r.now) (λ (v : Vec Instr Global). v.items) c.args.clauses.now c.loop-clause.clause-index c.clause-item.result c.args.tables.now c.loop-clause.tables c.clause_code.new.tables
          c.loop-clause.codes.items c.push.new.self.items c.in_ok-code.code c.args.first c.loop-clause.at (omega arith) c.clause-item.is c.loop-clause.invariant.0 c.in_ok-code.ensures.grows c.in_ok-push.ensures.items c.loop-clause.invariant.2 c.in_ok-code.ensures.code c.loop-clause.invariant.3,
    )

pub returns-clause-count : goal.returns-clause-count
returns-clause-count c = let place = c.loop-clause.invariant.1 in omega (arith, place)

pub returns-clause-codes : goal.returns-clause-codes
returns-clause-codes c code h =
    codes_end (λ (r : Bor Clause). r.now) (λ (v : Vec Instr Global). v.items) c.args.clauses.now c.loop-clause.clause-index c.loop-clause.codes.items code c.args.first (omega arith) (c.loop-clause.invariant.3 code h)
