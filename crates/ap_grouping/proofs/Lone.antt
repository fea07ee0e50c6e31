-- A program beside a query, with nothing to group.
use Rattle.std.proofs.Common.{◌≡◌, true, ◌&&◌, ◌∷◌, refl}
use Rattle.std.proofs.lemmas.List.Elements.{All-cons, All-append}
use Rattle.std.proofs.lemmas.List.Folds.{list_all-append}
use Rattle.ap_term.specs.Goals as goals
use Rattle.ap_term.specs.Goals.{Program, joined}
use Rattle.ap_term.specs.WellFormed.{IsClause, IsProgram, IsQuery}
use Rattle.ap_patterns.specs.declared.entries.Entries.TheVariants.{Query}
use Rattle.ap_mel.specs.declared.annotations.Kind.{Kind}
use Rattle.ap_mel.specs.Lone.{is_lone_body, is_lone}
use Rattle.ap_mel.proofs.Untouched.{lone-made, lone-given}
use Rattle.ap_grouping.specs.Groups.{AreGroups}
use Rattle.ap_grouping.proofs.Called.{called-safe}

pub lone-joined : (p : Program) (q : goals.Query) → is_lone (joined p q) ≡ (is_lone p && (is_lone_body q.question.body && is_lone q.lifted))
lone-joined p q = list_all-append (λ c. is_lone_body c.body) p (q.question ∷ q.lifted)

-- they are as they were
pub lone-groups : (kind : Kind) (p : Program) (q : goals.Query) → is_lone (joined p q) ≡ true → IsProgram p → IsQuery q → AreGroups kind p q p q
lone-groups kind p q lone good formed = record {
  made = lone-made kind Query (joined p q) lone;
  program = refl;
  question = refl;
  lifted = refl;
  names = refl;
  safe = called-safe (joined p q) (lone-given Query (joined p q) lone (All-append IsClause p (q.question ∷ q.lifted) good (All-cons IsClause q.question q.lifted formed.question formed.lifted)));
}
