use Rattle.std.proofs.Common.{[], ◌≡◌, ◌+◌, false, List, ◌∷◌, Vec, Global, map, length, take, ap, sym, ◌∙◌, subst, rules}
use Rattle.std.proofs.Math.Seq.{take-append_seam}
use Rattle.ap_instr.specs.declared.instruction.Instr.{Instr}
use Rattle.ap_instr.specs.declared.instruction.Instr.TheVariants.{Proceed, Builtin}
use Rattle.ap_codegen.specs.Permanent.{is_builtin_key}
use Rattle.ap_codegen.specs.Assembled.{AreCoded, chosen}
use Rattle.ap_codegen.specs.Index.{clauses_at}
use Rattle.ap_codegen.proofs.Blocks.{clauses_block, builtin_block}
use Rattle.ap_codegen.proofs.Making.{length_codes, laid_is}
use Rattle.ap_codegen.proofs.programs.lay_predicate.Goals as goal

pub returns-in-Some-clause-block : goal.returns-in-Some-clause-block
returns-in-Some-clause-block c p indexed =
    let named = rw c.in-Some.is at c.builtin_named.ensures in (
      Builtin c.in-Some.builtin ∷ Proceed ∷ [],
      c.in_ok-lay_builtin.ensures,
      builtin_block c.args.tables.now c.args.out.now.items c.in-Some.builtin (c.args.name, c.args.arity) p (named.1 ∙ c.at.ensures) named.2,
    )

pub returns-clause-block : goal.returns-clause-block
returns-clause-block c p indexed =
    let away : is_builtin_key (c.args.name, c.args.arity) ≡ false = ap (λ n. is_builtin_key (n, c.args.arity)) (sym c.at.ensures) ∙ (rw c.in_default.is at c.builtin_named.ensures) in
    let codes : List (List Instr) = map (λ (v : Vec Instr Global). v.items) c.in_ok-codes.codes.items in
    let start : c.in_ok-start.start ≡ length c.args.out.now.items = search rules in
    let first : c.in_ok-start.start + chosen (length c.in_ok-codes.codes.items) ≡ length c.args.out.now.items + chosen (length codes) =
    ap (λ n. n + chosen (length c.in_ok-codes.codes.items)) start ∙ ap (λ n. length c.args.out.now.items + chosen n) (sym (length_codes (λ (v : Vec Instr Global). v.items) c.in_ok-codes.codes.items)) in
    let same = indexed away in (
      _,
      laid_is (λ (v : Vec Instr Global). v.items) c.as_slice.result.now c.in_ok-codes.codes.items c.args.out.now.items c.lay.new.out.items c.as_slice.ensures.value c.in_ok-lay.ensures,
      clauses_block c.predicate_codes.new.tables c.args.out.now.items codes (c.args.name, c.args.arity) p
          (λ code h. subst (AreCoded code (length c.args.out.now.items + chosen (length codes)) codes) same (subst (λ n. AreCoded code n codes (clauses_at c.args.index.now (c.args.name, c.args.arity))) first (c.in_ok-codes.ensures.codes code h))) away,
    )

pub returns-in-Some-clause-begins : goal.returns-in-Some-clause-begins
returns-in-Some-clause-begins c = ap (take (length c.args.out.now.items)) c.in_ok-lay_builtin.ensures ∙ take-append_seam c.args.out.now.items (Builtin c.in-Some.builtin ∷ Proceed ∷ [])

pub returns-clause-begins : goal.returns-clause-begins
returns-clause-begins c = ap (take (length c.args.out.now.items)) c.in_ok-lay.ensures ∙ take-append_seam c.args.out.now.items _
