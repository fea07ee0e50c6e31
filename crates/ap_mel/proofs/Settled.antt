-- Where the table of a program without groups is that of the program with its first groups, no pass changes these.
use Rattle.std.proofs.Common.{◌≡◌, ℕ, zero, suc, ◌≤◌, inl, inr, Bool, true, false, not, ◌&&◌, ◌||◌, if◌then◌else◌, nat_le, ◌+◌, List, [], ◌∷◌, take, drop, refl, ap, sym, ◌∙◌, subst}
use Rattle.std.specs.List.{filter, list_any}
use Rattle.std.proofs.lemmas.Bool.{false≢true, and_parts, and_from, or_parts, not-true}
use Rattle.std.proofs.lemmas.List.Elements.{All-nil, All-cons, All-head, All-tail}
use Rattle.ap_term.specs.declared.clauses.Check.{Check}
use Rattle.ap_term.specs.Tree.{Tree, Trees, count_trees}
use Rattle.ap_term.specs.Goals.{Part, call, group, is_group, has_groups, Clause, Program}
use Rattle.ap_term.specs.WellFormed.{IsClause, IsProgram}
use Rattle.ap_absunify.specs.declared.states.State.{State}
use Rattle.ap_patterns.specs.declared.entries.Entries.{Entries}
use Rattle.ap_patterns.specs.Entering.{enter}
use Rattle.ap_patterns.specs.Places.{arguments}
use Rattle.ap_patterns.specs.Table.{predicate_of}
use Rattle.ap_patterns.specs.Given.{Patterns, call_at, after_part, is_analysed}
use Rattle.ap_conditions.specs.FullCondition.{full_condition}
use Rattle.ap_conditions.specs.Simplified.{simplified, left}
use Rattle.ap_conditions.specs.declared.simplifications.Simplified.{Simplified}
use Rattle.ap_conditions.specs.declared.simplifications.Simplified.TheVariants.{Keep, NeverTrue}
use Rattle.ap_conditions.specs.Laws.{IsIn}
use Rattle.ap_certify.specs.Written.{is_written}
use Rattle.ap_certify.specs.declared.certified.Scope.TheVariants.{Of}
use Rattle.ap_certify.specs.Certificate.{IsSoundAnnotation}
use Rattle.ap_cge.specs.Stripped.{stripped}
use Rattle.ap_fixpoint.specs.Fix.{IsFix}
use Rattle.ap_udg.specs.declared.runs.Rule.{Rule}
use Rattle.ap_udg.specs.declared.runs.Rule.TheVariants.{Conditional, Unconditional}
use Rattle.ap_udg.specs.Completed.{missing, unknown, start}
use Rattle.ap_udg.specs.Runs.{takes, may_stand, goals_of}
use Rattle.ap_udg.specs.Grouped.{group_in, IsNext, Grouped, alone, together, done, next}
use Rattle.ap_udg.specs.Annotated.{IsBody, IsAnnotatedClause, IsAnnotated}
use Rattle.ap_udg.proofs.Annotations.{clause-formed}
use Rattle.ap_mel.specs.declared.annotations.Kind.{Kind}
use Rattle.ap_mel.specs.declared.annotations.Kind.TheVariants as kind
use Rattle.ap_mel.specs.Lone.{is_plain}
use Rattle.ap_mel.specs.Made.{IsFirst, IsMade, begun}
use Rattle.ap_mel.specs.Mended.{is_never_true, is_none, is_bare, is_settled, is_body_settled, is_clause_settled, is_program_settled}
use Rattle.ap_mel.proofs.Certifying.{first-kept, made, settled-given, sound}
use Rattle.ap_mel.proofs.Ending.{written_right}
use Rattle.ap_mel.proofs.Plain.{body_settled, plain-settled, first-stripped}

-- ---- a group that was made in a state wants nothing there

none-filtered : (p : Check → Bool) (ds : List Check) → ((c : Check) → IsIn c ds → p c ≡ false) → filter p ds ≡ []
none-filtered p [] h = refl
none-filtered p (d ∷ ds) h = ap (λ b. if b then d ∷ filter p ds else filter p ds) (h d (inl refl)) ∙ none-filtered p ds (λ c i. h c (inr i))

none-missing : (s : State) (gs : Trees) → missing s (left s (full_condition gs)) gs ≡ []
none-missing s gs =
    let cs = left s (full_condition gs) in
    none-filtered (λ c. not (is_written c cs)) cs (λ c i. ap not (written_right c [] cs i))

taken : (r : Rule) (x : Simplified) → takes r x ≡ true → is_never_true x ≡ false
taken r NeverTrue h = absurd (false≢true h)
taken r (Keep cs) h = refl

group-settled : (bare : Bool) (r : Rule) (s : State) (gs : Trees) → may_stand r s gs ≡ true → is_settled bare s (group_in s gs) ≡ true
group-settled bare r s gs h =
    ap (λ m. not (is_never_true (simplified (full_condition gs) s) || (bare && not (is_none m))) && is_none m) (none-missing s gs)
    ∙ ap (λ b. not (b || (bare && false)) && true) (taken r (simplified (full_condition gs) s) h) ∙ last bare
  where
    last : (b : Bool) → (not (false || (b && false)) && true) ≡ true
    last true = refl
    last false = refl

first-settled : (bare : Bool) (s : State) (ps : List Part) (p : Part) → take 1 ps ≡ p ∷ [] → list_any is_group ps ≡ false → is_settled bare s p ≡ true
first-settled bare s [] p e w = absurd (cc)
first-settled bare s (call g ∷ ps) p e w = let same : call g ≡ p = cc in ap (is_settled bare s) (sym same)
first-settled bare s (group cs gs ∷ ps) p e w = absurd (false≢true (sym w))

next-settled : (bare : Bool) (r : Rule) (s : State) (ps : List Part) (n : ℕ) (p : Part) → IsNext r s ps n p → list_any is_group ps ≡ false → is_settled bare s p ≡ true
next-settled bare r s ps0 i q (alone m n p l one e h) w = first-settled bare s ps0 p h w
next-settled bare r s ps0 i q (together n p l two h) w = ap (is_settled bare s) h ∙ group-settled bare r s (goals_of (take n ps0)) l.run.stands

none-behind : (n : ℕ) (ps : List Part) → list_any is_group ps ≡ false → list_any is_group (drop n ps) ≡ false
none-behind zero ps w = w
none-behind (suc n) [] w = refl
none-behind (suc n) (p ∷ ps) w = none-behind n ps (or_parts (is_group p) (list_any is_group ps) w).1

grouped-settled : (bare : Bool) (r : Rule) (t : Patterns) (s : State) (ps qs : List Part) → Grouped r t s ps qs → list_any is_group ps ≡ false → is_body_settled bare true t s qs ≡ true
grouped-settled bare r t s0 ps0 qs0 (done s ps e) w = refl
grouped-settled bare r t s0 ps0 qs0 (next s ps n p qs i g) w =
    and_from (is_settled bare s p) (is_body_settled bare true t (after_part t s p) qs) (next-settled bare r s ps n p i w)
    (grouped-settled bare r t (after_part t s p) (drop n ps) qs g (none-behind n ps w))

-- ---- clauses and programs

body-settled : (hand analysed bare : Bool) (r : Rule) (t : Patterns) (c : Clause) (body : List Part) → hand ≡ false → IsBody hand analysed r t c body → list_any is_group c.body ≡ false
    → is_body_settled bare analysed t (start t c) body ≡ true
body-settled true analysed bare r t c body e h w = absurd (false≢true (sym e))
body-settled false true bare r t c body e h w = grouped-settled bare r t (start t c) c.body body h w
body-settled false false bare r t c body e h w = ap (is_body_settled bare false t (start t c)) h ∙ body_settled bare false t (start t c) c.body w

-- the state in which a clause begins turns on its head and its variables alone
abbrev start_of : Patterns → Tree → ℕ → State
start_of t head vars = if nat_le (vars + count_trees (arguments head)) 64 then enter vars head (call_at t (predicate_of head)) else unknown (call_at t (predicate_of head))

abbrev settled_of : Bool → Patterns → Tree → ℕ → List Part → Bool
settled_of bare t head vars body = is_body_settled bare (nat_le (vars + count_trees (arguments head)) 64) t (start_of t head vars) body

clause-settled : (k : Kind) (r : Rule) (t : Patterns) (c d : Clause) → IsAnnotatedClause r t c d → has_groups c ≡ false → is_clause_settled k t c d ≡ true
clause-settled k r t c d h w =
    ap (λ x. settled_of (is_bare k c) t x d.vars d.body) h.head ∙ ap (λ x. settled_of (is_bare k c) t c.head x d.body) h.vars
    ∙ body-settled (has_groups c) (is_analysed c) (is_bare k c) r t c d.body w h.body w

annotated-settled : (k : Kind) (r : Rule) (t : Patterns) (P A : Program) → IsAnnotated r t P A → is_plain P ≡ true → is_program_settled k t P A ≡ true
annotated-settled k r t [] A h p = refl
annotated-settled k r t (c ∷ cs) [] h p = absurd h
annotated-settled k r t (c ∷ cs) (d ∷ ds) h p =
    let w = and_parts (not (has_groups c)) (is_plain cs) p in
    and_from (is_clause_settled k t c d) (is_program_settled k t cs ds) (clause-settled k r t c d h.0 (not-true (has_groups c) w.0)) (annotated-settled k r t cs ds h.1 w.1)

firsts-settled : (k : Kind) (t : Patterns) (P A : Program) → IsFirst k t P A → is_plain P ≡ true → is_program_settled k t P A ≡ true
firsts-settled kind.Mel t P A h p = annotated-settled kind.Mel Conditional t P A h p
firsts-settled kind.Udg t P A h p = annotated-settled kind.Udg Unconditional t P A h p
firsts-settled kind.None t P A h p = ap (is_program_settled kind.None t P) h ∙ plain-settled kind.None t P p

annotated-formed : (r : Rule) (t : Patterns) (P A : Program) → IsAnnotated r t P A → IsProgram P → IsProgram A
annotated-formed r t [] A h good = subst IsProgram (sym h) (All-nil IsClause)
annotated-formed r t (c ∷ cs) [] h good = absurd h
annotated-formed r t (c ∷ cs) (d ∷ ds) h good =
    All-cons IsClause d ds (clause-formed r t c d.head d.body d.vars d.line (All-head IsClause c cs good) h.0.head h.0.body h.0.vars) (annotated-formed r t cs ds h.1 (All-tail IsClause c cs good))

first-formed : (k : Kind) (t : Patterns) (P A : Program) → IsFirst k t P A → IsProgram P → IsProgram A
first-formed kind.Mel t P A h good = annotated-formed Conditional t P A h good
first-formed kind.Udg t P A h good = annotated-formed Unconditional t P A h good
first-formed kind.None t P A h good = subst IsProgram (sym h) good

-- ---- the first groups are what the passes end at

pub first-made : (k : Kind) (E : Entries) (P A : Program) (t : Patterns) → IsFix E P t → IsFirst k t P A → is_plain P ≡ true → IsFix E A t → IsMade k E P A
first-made k E P A t f one p own = made k E P A A t t f one (begun A refl) own (first-kept k t P A one).0 (firsts-settled k t P A one p)

pub first-sound : (k : Kind) (E : Entries) (P A : Program) (t : Patterns) → IsFirst k t P A → IsProgram P → is_plain P ≡ true → IsFix E A t → IsSoundAnnotation P A (Of E)
first-sound k E P A t one good p own =
    sound k E P A A t one (begun A refl) (settled-given k E P A t (first-kept k t P A one).0 (first-formed k t P A one good) own (firsts-settled k t P A one p))

-- the table of the program is that of the program without its first groups
pub first-own : (k : Kind) (E : Entries) (P A : Program) (t : Patterns) → IsFix E P t → IsFirst k t P A → is_plain P ≡ true → (IsFix E (stripped A) t → IsFix E A t) → IsFix E A t
first-own k E P A t f one p own = own (subst (λ B. IsFix E B t) (first-stripped k t P A one p) f)
