use Rattle.std.proofs.Common.{◌≡◌, ◌∷◌, true, false, not, length, take, refl, ap, sym, ◌∙◌, subst, rules}
use Rattle.ap_instr.specs.StandsFor.{asked}
use Rattle.ap_codegen.specs.Assembled.{Numbered}
use Rattle.ap_codegen.specs.Kept.{are_new}
use Rattle.ap_codegen.specs.declared.kept.Kept.{Kept}
use Rattle.ap_codegen.proofs.Keeping.{copied_made, cut_back, stands_asked}
use Rattle.ap_codegen.proofs.kept.Kept.beside.Goals as goal

pub returns-clause-stands : goal.returns-clause-stands
returns-clause-stands c p are =
    let s = c.args.self.now in
    let stands = c.in_ok-code.ensures.stands p (copied_made s.tables s.made c.in_ok-made.made s.listed p c.in_ok-made.ensures.instructions c.in_ok-made.ensures.predicates are) (sym c.in_ok-all_new.ensures ∙ search rules) in
    stands_asked c.in_ok-code.code p c.args.query.now c.arity_of-arity.result c.as_slice-clauses.result.now c.arity_of-arity.ensures (c.as_slice-clauses.ensures.clauses ∙ c.in_ok-own.ensures) stands

pub returns-clause-sound : goal.returns-clause-sound
returns-clause-sound c p are =
    let s = c.args.self.now in
    let stands = c.in_ok-code.ensures.stands p (copied_made s.tables s.made c.in_ok-made.made s.listed p c.in_ok-made.ensures.instructions c.in_ok-made.ensures.predicates are) (sym c.in_ok-all_new.ensures ∙ search rules) in
    stands.sound

pub returns-clause-behind : goal.returns-clause-behind
returns-clause-behind c =
    let code = c.in_ok-code.code in
    let begun = c.in_ok-code.ensures.begins in
    record {
      begins = record {
        instructions = subst (λ xs. take (length xs) code.instructions ≡ xs) c.in_ok-made.ensures.instructions begun.instructions;
        integers = begun.integers;
        predicates = subst (λ xs. take (length xs) code.predicates ≡ xs) c.in_ok-made.ensures.predicates begun.predicates;
      };
      query = refl;
    }

abbrev with_tables : Kept → Numbered → Kept
with_tables kept t = record { tables = t; made = kept.made; listed = kept.listed }

pub returns-clause-same : goal.returns-clause-same
returns-clause-same c =
    let s = c.args.self.now in
    ap (with_tables s) (cut_back s.tables c.code_behind.new.tables c.cut_to.new.self _ _ c.in_ok-code.ensures.grows c.integer_count-integers.ensures c.predicate_count-predicates.ensures c.cut_to.ensures)

pub returns-clause-none : goal.returns-clause-none
returns-clause-none c =
    let ks = c.args.self.now.tables.predicates in
    let q = c.args.query.now in
    let same : true ≡ are_new ks (asked q ∷ q.lifted) = search rules ∙ c.in_ok-all_new.ensures ∙ ap (are_new ks) (c.as_slice-clauses.ensures.clauses ∙ c.in_ok-own.ensures) in
    ap not same

pub returns-then-not-all_new-clause-none : goal.returns-then-not-all_new-clause-none
returns-then-not-all_new-clause-none c =
    let ks = c.args.self.now.tables.predicates in
    let q = c.args.query.now in
    let same : false ≡ are_new ks (asked q ∷ q.lifted) = search rules ∙ c.in_ok-all_new.ensures ∙ ap (are_new ks) (c.as_slice-clauses.ensures.clauses ∙ c.in_ok-own.ensures) in
    ap not same
