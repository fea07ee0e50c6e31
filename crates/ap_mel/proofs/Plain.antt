-- Programs in which nothing is grouped.
use Rattle.std.proofs.Common.{◌≡◌, Bool, true, false, not, ◌&&◌, List, [], ◌∷◌, refl, ap, sym, ◌∙◌}
use Rattle.std.specs.List.{flat_map, list_any}
use Rattle.std.proofs.lemmas.Bool.{false≢true, and_parts, not-true}
use Rattle.ap_term.specs.Goals.{Part, call, group, is_group, has_groups, Clause, Program}
use Rattle.ap_term.specs.WellFormed.{IsProgram}
use Rattle.ap_absunify.specs.declared.states.State.{State}
use Rattle.ap_patterns.specs.declared.entries.Entries.{Entries}
use Rattle.ap_patterns.specs.Given.{Patterns, is_analysed}
use Rattle.ap_certify.specs.declared.certified.Scope.TheVariants.{Of}
use Rattle.ap_certify.specs.Certificate.{AreMissingGiven, IsSoundAnnotation}
use Rattle.ap_cge.specs.Stripped.{stripped_part, stripped_clause, stripped}
use Rattle.ap_fixpoint.specs.Fix.{IsFix}
use Rattle.ap_udg.specs.Completed.{start, behind}
use Rattle.ap_mel.specs.declared.annotations.Kind.{Kind}
use Rattle.ap_mel.specs.Lone.{is_plain}
use Rattle.ap_mel.specs.Made.{IsFirst, IsMade, begun}
use Rattle.ap_mel.specs.Mended.{is_bare, mended_clause, is_body_settled, is_clause_settled, is_program_settled}
use Rattle.ap_mel.proofs.Certifying.{first-kept, made, settled-given, sound}
use Rattle.ap_mel.proofs.Mending.{clause_stays}

stripped-body : (ps : List Part) → list_any is_group ps ≡ false → flat_map stripped_part ps ≡ ps
stripped-body [] w = refl
stripped-body (call g ∷ ps) w = ap (λ xs. call g ∷ xs) (stripped-body ps w)
stripped-body (group cs gs ∷ ps) w = absurd (false≢true (sym w))

pub stripped-same : (c : Clause) → not (has_groups c) ≡ true → stripped_clause c ≡ c
stripped-same c w = ap (λ b. record { head = c.head; body = b; vars = c.vars; line = c.line }) (stripped-body c.body (not-true (has_groups c) w))

pub stripped-plain : (P : Program) → is_plain P ≡ true → stripped P ≡ P
stripped-plain [] w = refl
stripped-plain (c ∷ cs) w =
    let r = and_parts (not (has_groups c)) (is_plain cs) w in
    ap (λ x. x ∷ stripped cs) (stripped-same c r.0) ∙ ap (λ xs. c ∷ xs) (stripped-plain cs r.1)

pub body_settled : (bare analysed : Bool) (t : Patterns) (s : State) (ps : List Part) → list_any is_group ps ≡ false → is_body_settled bare analysed t s ps ≡ true
body_settled bare analysed t s [] w = refl
body_settled bare analysed t s (call g ∷ ps) w = body_settled bare analysed t (behind analysed t s (call g)) ps w
body_settled bare analysed t s (group cs gs ∷ ps) w = absurd (false≢true (sym w))

-- a clause without groups stays as it is in each pass
pub plain-clause : (k : Kind) (t : Patterns) (c d : Clause) → has_groups d ≡ false → is_clause_settled k t c d ≡ true
plain-clause k t c d w = body_settled (is_bare k c) (is_analysed d) t (start t d) d.body w

pub plain-stays : (k : Kind) (t : Patterns) (c d : Clause) → has_groups d ≡ false → mended_clause k t c d ≡ d
plain-stays k t c d w = clause_stays k t c d (plain-clause k t c d w)

pub ruleset rules_of_plain = (plain-clause, plain-stays)

pub plain-settled : (k : Kind) (t : Patterns) (P : Program) → is_plain P ≡ true → is_program_settled k t P P ≡ true
plain-settled k t [] w = refl
plain-settled k t (c ∷ cs) w =
    let r = and_parts (not (has_groups c)) (is_plain cs) w in
    ap (λ b. b && is_program_settled k t cs cs) (body_settled (is_bare k c) (is_analysed c) t (start t c) c.body (not-true (has_groups c) r.0)) ∙ plain-settled k t cs r.1

-- a program without groups is what its first groups leave of it without them
pub first-stripped : (k : Kind) (t : Patterns) (P A : Program) → IsFirst k t P A → is_plain P ≡ true → P ≡ stripped A
first-stripped k t P A one p = sym ((first-kept k t P A one).1 ∙ stripped-plain P p)
