use Rattle.std.proofs.Common.{◌≡◌, ◌+◌, Bor, Vec, Global, length, map, ap, sym, ◌∙◌, subst, rules}
use Rattle.ap_term.specs.Goals.{Clause}
use Rattle.ap_instr.specs.declared.instruction.Instr.{Instr}
use Rattle.ap_codegen.specs.Assembled.{AreCoded, chosen}
use Rattle.ap_codegen.specs.Index.{clauses_at}
use Rattle.ap_codegen.proofs.programs.predicate_codes.Goals as goal

pub returns-in_ok-codes-in-Some-clause-codes : goal.returns-in_ok-codes-in-Some-clause-codes
returns-in_ok-codes-in-Some-clause-codes c code h =
    let own : clauses_at c.args.index.now (c.args.name, c.args.arity) ≡ map (λ (r : Bor Clause). r.now) c.as_slice.result.now = search rules in
    let place : c.in_ok-first-in-Some.first ≡ c.args.start + chosen (length c.in_ok-codes-in-Some.codes.items) =
    c.in_ok-first-in-Some.ensures ∙ ap (λ n. c.args.start + chosen n) (c.len.ensures ∙ sym c.as_slice.ensures.len ∙ sym c.in_ok-codes-in-Some.ensures.count) in
    subst (λ n. AreCoded code n (map (λ (v : Vec Instr Global). v.items) c.in_ok-codes-in-Some.codes.items) (clauses_at c.args.index.now (c.args.name, c.args.arity))) place
    (subst (AreCoded code c.in_ok-first-in-Some.first (map (λ (v : Vec Instr Global). v.items) c.in_ok-codes-in-Some.codes.items)) (sym own)
    (c.in_ok-codes-in-Some.ensures.codes code h))
