-- A query with the groups of another one: the groups at which the passes end for it.
use Rattle.std.proofs.Common.{◌≡◌, not, List, [], ◌∷◌, ◌++◌, refl, ap, ap₂, sym, ◌∙◌, subst}
use Rattle.std.specs.List.{flat_map}
use Rattle.std.proofs.lemmas.List.{map-append}
use Rattle.std.proofs.lemmas.Grind.{flat_map-append}
use Rattle.std.proofs.lemmas.List.Elements.{All-cons, All-append}
use Rattle.ap_term.specs.Tree.{Trees, none, more}
use Rattle.ap_term.specs.Goals as goals
use Rattle.ap_term.specs.Goals.{Part, call, group, calls, Clause, Program, joined}
use Rattle.ap_term.specs.WellFormed.{IsClause, IsProgram, IsQuery}
use Rattle.ap_cge.specs.Stripped.{stripped_part, stripped_clause, stripped}
use Rattle.ap_patterns.specs.declared.entries.Entries.TheVariants as entries
use Rattle.ap_mel.specs.declared.annotations.Kind.{Kind}
use Rattle.ap_mel.specs.Made.{IsMade}
use Rattle.ap_mel.proofs.Plain.{stripped-same}
use Rattle.ap_alike.specs.Alike.{IsAlikeClause, AreAlike}
use Rattle.ap_alike.specs.Fitted.{IsFittedClause}
use Rattle.ap_alike.specs.Laws.{AlikeLaw}
use Rattle.ap_alike.proofs.Again.{clause-stripped, joined-alike, made-stripped, made-given}
use Rattle.ap_grouping.specs.Groups.{AreGroups}
use Rattle.ap_grouping.specs.Again.{HasNoGroups}
use Rattle.ap_grouping.proofs.Called.{called-safe}

-- ---- without groups

flat_calls : (gs : Trees) → flat_map stripped_part (calls gs) ≡ calls gs
flat_calls none = refl
flat_calls (more g gs) = ap (λ xs. call g ∷ xs) (flat_calls gs)

flat_twice : (ps : List Part) → flat_map stripped_part (flat_map stripped_part ps) ≡ flat_map stripped_part ps
flat_twice [] = refl
flat_twice (call g ∷ ps) = ap (λ xs. call g ∷ xs) (flat_twice ps)
flat_twice (group cs gs ∷ ps) =
    flat_map-append stripped_part (calls gs) (flat_map stripped_part ps) ∙ ap₂ (λ xs ys. xs ++ ys) (flat_calls gs) (flat_twice ps)

twice : (c : Clause) → stripped_clause (stripped_clause c) ≡ stripped_clause c
twice c = ap (λ b. record { head = c.head; body = b; vars = c.vars; line = c.line }) (flat_twice c.body)

-- programs with clauses behind them that are the same so
behind_same : (p a : Program) (q b : Clause) → stripped a ≡ stripped p → stripped_clause b ≡ stripped_clause q → stripped (a ++ b ∷ []) ≡ stripped (p ++ q ∷ [])
behind_same p a q b e k =
    map-append stripped_clause a (b ∷ [])
    ∙ ap₂ (λ (xs : Program) (x : Clause). xs ++ x ∷ []) e k
    ∙ sym (map-append stripped_clause p (q ∷ []))

-- ---- the groups

pub regrouped : AlikeLaw → (kind : Kind) (p a : Program) (q grouped asked again : goals.Query) → HasNoGroups q → grouped.lifted ≡ [] → asked.lifted ≡ [] → again.lifted ≡ [] → again.names ≡ asked.names
    → IsProgram a → IsQuery again → IsFittedClause grouped.question asked.question again.question → AreGroups kind p q a grouped → AreGroups kind p asked a again
regrouped law kind p a q grouped asked again bare l0 l1 l2 names good formed fit g = record {
  made = made;
  program = g.program;
  question = asked_same;
  lifted = ap stripped (l2 ∙ sym l1);
  names = names;
  safe = called-safe (joined a again) (made-given kind entries.Query (joined p asked) (joined a again) made whole);
}
  where
    asked_same : stripped_clause again.question ≡ stripped_clause asked.question
    asked_same = sym (twice again.question) ∙ ap stripped_clause fit.same

    -- without groups
    plain : stripped_clause grouped.question ≡ q.question
    plain = g.question ∙ stripped-same q.question (ap not bare.question)

    questions : IsAlikeClause q.question asked.question
    questions =
        subst (λ x. IsAlikeClause x asked.question) plain
        (subst (λ x. IsAlikeClause (stripped_clause grouped.question) x) fit.same (clause-stripped grouped.question again.question fit.alike))

    with_q : joined p q ≡ p ++ q.question ∷ []
    with_q = ap (λ xs. p ++ q.question ∷ xs) bare.lifted

    with_asked : joined p asked ≡ p ++ asked.question ∷ []
    with_asked = ap (λ xs. p ++ asked.question ∷ xs) l1

    with_grouped : joined a grouped ≡ a ++ grouped.question ∷ []
    with_grouped = ap (λ xs. a ++ grouped.question ∷ xs) l0

    with_again : joined a again ≡ a ++ again.question ∷ []
    with_again = ap (λ xs. a ++ again.question ∷ xs) l2

    before : IsMade kind entries.Query (p ++ q.question ∷ []) (a ++ grouped.question ∷ [])
    before = subst (IsMade kind entries.Query (p ++ q.question ∷ [])) with_grouped (subst (λ x. IsMade kind entries.Query x (joined a grouped)) with_q g.made)

    found : (n : Program) × IsMade kind entries.Query (p ++ asked.question ∷ []) n × AreAlike (a ++ grouped.question ∷ []) n
    found = law.made kind entries.Query (p ++ q.question ∷ []) (p ++ asked.question ∷ []) (a ++ grouped.question ∷ []) (joined-alike p q.question asked.question questions) before

    n : Program
    n = found.0

    -- both are alike to one, and the same without groups
    same : n ≡ a ++ again.question ∷ []
    same =
        law.one (a ++ grouped.question ∷ []) n (a ++ again.question ∷ []) found.2 (joined-alike a grouped.question again.question fit.alike)
        (made-stripped kind entries.Query (p ++ asked.question ∷ []) n found.1 ∙ sym (behind_same p a asked.question again.question g.program asked_same))

    made : IsMade kind entries.Query (joined p asked) (joined a again)
    made =
        subst (λ x. IsMade kind entries.Query x (joined a again)) (sym with_asked)
        (subst (IsMade kind entries.Query (p ++ asked.question ∷ [])) (same ∙ sym with_again) found.1)

    whole : IsProgram (joined a again)
    whole = All-append IsClause a (again.question ∷ again.lifted) good (All-cons IsClause again.question again.lifted formed.question formed.lifted)
