-- What an index leaves out.
use Rattle.std.proofs.Common.{◌≡◌, ℕ, cond, List, [], ◌∷◌, ◌++◌, Some, refl, ap, sym, ◌∙◌}
use Rattle.std.specs.List.{AllByRecursion}
use Rattle.std.proofs.lemmas.List.Elements.{filter-append}
use Rattle.ap_instr.specs.declared.instruction.Instr.TheVariants.{Try}
use Rattle.ap_instr.specs.declared.compiled.Predicate.{Predicate}
use Rattle.ap_instr.specs.Code.{Compiled}
use Rattle.ap_instr.specs.StandsFor.{clause_places, alternatives}
use Rattle.ap_index.specs.declared.key.Key.{Key}
use Rattle.ap_index.specs.declared.row.Row.{Row}
use Rattle.ap_index.specs.Keys.{key_at}
use Rattle.ap_index.specs.Index.{AsksOther, LeavesOthers, named, named_from, first_for, IsRowOf}
use Rattle.ap_term.proofs.Lists.{drop-here}
use Rattle.ap_listing.specs.Switch.{is_met, clauses_for}

unmet : (code : Compiled) (k : Key) (ls : List ℕ) → AllByRecursion (AsksOther code k) ls → clauses_for code ls k ≡ []
unmet code k [] h = refl
unmet code k (l ∷ ls) h =
    ap (λ o. cond (is_met k o) (l ∷ clauses_for code ls k) (clauses_for code ls k)) (h.0).asks
    ∙ ap (λ b. cond b (l ∷ clauses_for code ls k) (clauses_for code ls k)) (h.0).other
    ∙ unmet code k ls h.1

left : (code : Compiled) (k : Key) (ls rest : List ℕ) → LeavesOthers code k ls rest → clauses_for code rest k ≡ clauses_for code ls k
left code k ls rest h =
    sym (ap (λ x. clauses_for code x k) h.are ∙ filter-append (λ l. is_met k (key_at code l)) h.passed rest ∙ ap (λ x. x ++ clauses_for code rest k) (unmet code k h.passed h.others))

pub index_leaves : (code : Compiled) (p : Predicate) (r : Row) (k : Key) → IsRowOf code p.start r → clauses_for code (named_from code (first_for r k)) k ≡ clauses_for code (clause_places code p) k
index_leaves code p r k h =
    let is = drop-here code.instructions p.start (Try h.clause) h.begins in
    left code k (named_from code (Some p.start)) (named_from code (first_for r k)) (h.leads k)
    ∙ ap (λ x. clauses_for code x k) (ap named is ∙ sym (ap (alternatives p.start) is))
