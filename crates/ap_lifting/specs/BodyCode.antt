-- How the logic stores bodies and rules.
use Rattle.std.specs.Prelude.{◌≡◌, ℕ, zero, suc, List, [], ◌∷◌, Option, refl}
use Rattle.std.proofs.Common.{ap, sym, ◌∙◌}
use Rattle.std.specs.Coded.{Coded, code_by, coded_option, coded×, coded_ℕ}
use base.Stored.{Gv, gnil, gnum, gcons, num}
use Rattle.ap_term.specs.Tree.{Tree}
use Rattle.ap_term.specs.TreeCode.{to_code, from_code, back, tree_code}
use Rattle.ap_lifting.specs.declared.bodies.Condition.{Condition}
use Rattle.ap_lifting.specs.declared.bodies.Condition.TheVariants.{True, Ground, Indep}
use Rattle.ap_lifting.specs.Body.{Body, goal, conjunction, disjunction, parallel, conditional}
use Rattle.ap_lifting.specs.Rule.{Rule}

abbrev of_condition : Condition → Gv
of_condition True = gnil
of_condition (Ground x) = gnum x
of_condition (Indep x y) = gcons (gnum x) (gnum y)

abbrev to_condition : Gv → Condition
to_condition gnil = True
to_condition (gnum x) = Ground x
to_condition (gcons g h) = Indep (num g) (num h)

condition_back : (c : Condition) → to_condition (of_condition c) ≡ c
condition_back True = refl
condition_back (Ground x) = refl
condition_back (Indep x y) = refl

abbrev of_conditions : List Condition → Gv
of_conditions [] = gnil
of_conditions (c ∷ cs) = gcons (of_condition c) (of_conditions cs)

abbrev to_conditions : Gv → List Condition
to_conditions gnil = []
to_conditions (gnum x) = []
to_conditions (gcons g h) = to_condition g ∷ to_conditions h

conditions_back : (cs : List Condition) → to_conditions (of_conditions cs) ≡ cs
conditions_back [] = refl
conditions_back (c ∷ cs) = ap (λ d. d ∷ to_conditions (of_conditions cs)) (condition_back c) ∙ ap (λ ds. c ∷ ds) (conditions_back cs)

abbrev of_body : Body → Gv
of_body (goal t) = gcons gnil (to_code t)
of_body (conjunction a b) = gcons (gnum 0) (gcons (of_body a) (of_body b))
of_body (disjunction a b) = gcons (gnum 1) (gcons (of_body a) (of_body b))
of_body (parallel a b) = gcons (gnum 2) (gcons (of_body a) (of_body b))
of_body (conditional cs b) = gcons (gcons gnil (of_conditions cs)) (of_body b)

-- two bodies under an operator
abbrev two : ℕ → Body → Body → Body
two zero a b = conjunction a b
two (suc zero) a b = disjunction a b
two (suc (suc n)) a b = parallel a b

abbrev to_body : Gv → Body
to_body gnil = goal (from_code gnil)
to_body (gnum x) = goal (from_code gnil)
to_body (gcons gnil g) = goal (from_code g)
to_body (gcons (gnum n) gnil) = goal (from_code gnil)
to_body (gcons (gnum n) (gnum m)) = goal (from_code gnil)
to_body (gcons (gnum n) (gcons a b)) = two n (to_body a) (to_body b)
to_body (gcons (gcons h cs) b) = conditional (to_conditions cs) (to_body b)

pub body_back : (b : Body) → to_body (of_body b) ≡ b
body_back (goal t) = ap goal (back t)
body_back (conjunction a b) = ap (λ x. conjunction x (to_body (of_body b))) (body_back a) ∙ ap (conjunction a) (body_back b)
body_back (disjunction a b) = ap (λ x. disjunction x (to_body (of_body b))) (body_back a) ∙ ap (disjunction a) (body_back b)
body_back (parallel a b) = ap (λ x. parallel x (to_body (of_body b))) (body_back a) ∙ ap (parallel a) (body_back b)
body_back (conditional cs b) = ap (λ x. conditional x (to_body (of_body b))) (conditions_back cs) ∙ ap (conditional cs) (body_back b)

abbrev pub written_code : Coded Body
written_code = record { code = of_body; inj = λ x y p. sym (body_back x) ∙ ap to_body p ∙ body_back y }

abbrev pub rule_code : Coded Rule
rule_code =
    code_by (Tree × (Option Body × (ℕ × ℕ))) (coded× tree_code (coded× (coded_option written_code) (coded× coded_ℕ coded_ℕ)))
    (λ c. (c.head, (c.body, (c.vars, c.line)))) (λ p. record { head = p.0; body = p.1.0; vars = p.1.1.0; line = p.1.1.1 }) (λ _. refl)
