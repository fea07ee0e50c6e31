-- Programs with nothing to group are annotated as they are.
use Rattle.std.proofs.Common.{◌≡◌, Bool, true, false, ◌&&◌, List, [], ◌∷◌, refl, ap, ◌∙◌, subst}
use Rattle.std.proofs.lemmas.Bool.{false≢true, and_parts}
use Rattle.ap_term.specs.Goals.{Part, call, group, Clause, Program}
use Rattle.ap_term.specs.WellFormed.{IsProgram}
use Rattle.ap_absunify.specs.declared.states.State.{State}
use Rattle.ap_patterns.specs.declared.entries.Entries.{Entries}
use Rattle.ap_patterns.specs.Given.{Patterns, is_analysed}
use Rattle.ap_certify.specs.declared.certified.Scope.TheVariants.{Of}
use Rattle.ap_certify.specs.Certificate.{AreMissingGiven, IsSoundAnnotation}
use Rattle.ap_udg.specs.declared.runs.Rule.{Rule}
use Rattle.ap_udg.specs.declared.runs.Rule.TheVariants.{Conditional, Unconditional}
use Rattle.ap_udg.specs.Completed.{start, behind}
use Rattle.ap_udg.specs.Runs.{is_user_call}
use Rattle.ap_udg.specs.Annotated.{has_groups, IsAnnotatedClause, IsAnnotated}
use Rattle.ap_mel.specs.declared.annotations.Kind.{Kind}
use Rattle.ap_mel.specs.declared.annotations.Kind.TheVariants as kind
use Rattle.ap_mel.specs.Lone.{is_lone_behind, is_lone_body, is_lone}
use Rattle.ap_mel.specs.Made.{IsFirst, Passes, begun, passed, IsMade}
use Rattle.ap_mel.specs.Mended.{is_bare, is_body_settled, is_program_settled, mended_program}
use Rattle.ap_udg.proofs.LoneBodies.{behind_parts, body-lone, no-groups}
use Rattle.ap_mel.proofs.Mending.{program-stays}
use Rattle.ap_mel.proofs.Certifying.{settled-given}
use Rattle.ap_mel.proofs.Ending.{one-made}

-- ---- no pass changes them

body_settled : (user bare analysed : Bool) (t : Patterns) (s : State) (ps : List Part) → is_lone_behind user ps ≡ true → is_body_settled bare analysed t s ps ≡ true
body_settled user bare analysed t s [] w = refl
body_settled user bare analysed t s (call g ∷ ps) w =
    body_settled (is_user_call (call g)) bare analysed t (behind analysed t s (call g)) ps (behind_parts user (call g) ps w).2
body_settled user bare analysed t s (group cs gs ∷ ps) w = absurd (false≢true w)

pub lone-settled : (k : Kind) (t : Patterns) (P : Program) → is_lone P ≡ true → is_program_settled k t P P ≡ true
lone-settled k t [] w = refl
lone-settled k t (c ∷ cs) w =
    let r = and_parts (is_lone_body c.body) (is_lone cs) w in
    ap (λ b. b && is_program_settled k t cs cs) (body_settled false (is_bare k c) (is_analysed c) t (start t c) c.body r.0) ∙ lone-settled k t cs r.1

-- ---- nothing of them is grouped

same-clause : (r : Rule) (t : Patterns) (c d : Clause) → IsAnnotatedClause r t c d → is_lone_body c.body ≡ true → d ≡ c
same-clause r t c d h w =
    let body = body-lone (has_groups c) (is_analysed c) r t c d.body (no-groups false c.body w) w h.body in
    ap (λ x. record { head = x; body = d.body; vars = d.vars; line = d.line }) h.head ∙ ap (λ x. record { head = c.head; body = x; vars = d.vars; line = d.line }) body
    ∙ ap (λ x. record { head = c.head; body = c.body; vars = x; line = d.line }) h.vars ∙ ap (λ x. record { head = c.head; body = c.body; vars = c.vars; line = x }) h.line

annotated-lone : (r : Rule) (t : Patterns) (P A : Program) → IsAnnotated r t P A → is_lone P ≡ true → A ≡ P
annotated-lone r t [] A h w = h
annotated-lone r t (c ∷ cs) [] h w = absurd h
annotated-lone r t (c ∷ cs) (d ∷ ds) h w =
    let b = and_parts (is_lone_body c.body) (is_lone cs) w in
    ap (λ x. x ∷ ds) (same-clause r t c d h.0 b.0) ∙ ap (λ xs. c ∷ xs) (annotated-lone r t cs ds h.1 b.1)

first-lone : (k : Kind) (t : Patterns) (P first : Program) → IsFirst k t P first → is_lone P ≡ true → first ≡ P
first-lone kind.Mel t P first h w = annotated-lone Conditional t P first h w
first-lone kind.Udg t P first h w = annotated-lone Unconditional t P first h w
first-lone kind.None t P first h w = h

passes-lone : (k : Kind) (E : Entries) (P first A : Program) → first ≡ P → is_lone P ≡ true → Passes k E P first A → A ≡ P
passes-lone k E P first A0 f w (begun A e) = e ∙ f
passes-lone k E P first B0 f w (passed A t B p x e) = e ∙ ap (mended_program k t P) (passes-lone k E P first A f w p) ∙ program-stays k t P P refl (lone-settled k t P w)

-- ---- they are what the passes end at

made-is : (k : Kind) (E : Entries) (P A : Program) → is_lone P ≡ true → IsMade k E P A → A ≡ P
made-is k E P A w m = passes-lone k E P m.first A (first-lone k m.written P m.first m.first_is w) w m.passes

pub lone-made : (k : Kind) (E : Entries) (P : Program) → is_lone P ≡ true → IsMade k E P P
lone-made k E P w = let m = one-made.some k E P in subst (IsMade k E P) (made-is k E P m.0 w m.1) m.1

pub lone-given : (E : Entries) (P : Program) → is_lone P ≡ true → IsProgram P → AreMissingGiven P (Of E)
lone-given E P w good = let m = lone-made kind.Mel E P w in settled-given kind.Mel E P P m.table refl good m.table_is (lone-settled kind.Mel m.table P w)

pub lone-sound : (E : Entries) (P : Program) → is_lone P ≡ true → IsProgram P → IsSoundAnnotation P P (Of E)
lone-sound E P w good = record { same = refl; given = lone-given E P w good }
