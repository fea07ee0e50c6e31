-- Compounds of a name that no rule singles out.
use Rattle.std.proofs.Common.{◌≡◌, ℕ, Bool, true, false, List, [], ◌∷◌, ◌++◌, refl, sym, ap, ◌∙◌}
use Rattle.std.specs.Prelude.{not, ◌&&◌, if◌then◌else◌, codes, bytes_eq}
use Rattle.std.proofs.lemmas.Bool.{false≢true}
use Rattle.ap_lexer.specs.Lexeme.{Text}
use Rattle.ap_reader.specs.declared.pass.Step.{Step}
use Rattle.ap_reader.specs.declared.pass.Step.TheVariants as step
use Rattle.ap_reader.specs.Grammar.{Tree, Single, Positive, Negative, Prefix, Infix, Group, Compound, Empty, Listed, Tailed}
use Rattle.ap_reader.specs.Step.{place, postfix, posts}
use Rattle.ap_reader.specs.Written.{Written, Node, Writtens, Nil, Cons, name_at, meaning, arguments}
use Rattle.ap_clause.specs.declared.form.Connective.{Connective}
use Rattle.ap_clause.specs.declared.form.Connective.TheVariants.{And, Or, Par, If, Other}
use Rattle.ap_clause.specs.declared.form.Form.{Form}
use Rattle.ap_clause.specs.Form.{connective, is_variable, is_body, are_checks, is_condition, is_conditional, is_head, are_both_checks, is_conditional_named, is_body_named, is_head_named}
use Rattle.ap_clause.specs.Shape.{form_of, plain, is_plain_name}

-- ---- the last step

abbrev last_step : Step → List Step → Step
last_step d [] = d
last_step d (s ∷ steps) = last_step s steps

last_step-push : (d : Step) (steps : List Step) (s : Step) → last_step d (steps ++ s ∷ []) ≡ s
last_step-push d [] s = refl
last_step-push d (x ∷ steps) s = last_step-push x steps s

last_step-append : (d : Step) (xs ys : List Step) → last_step d (xs ++ ys) ≡ last_step (last_step d xs) ys
last_step-append d [] ys = refl
last_step-append d (x ∷ xs) ys = last_step-append x xs ys

-- the last step behind two stretches of others
last_step-two : (d : Step) (xs ys : List Step) (s : Step) → last_step d (xs ++ (ys ++ s ∷ [])) ≡ s
last_step-two d xs ys s = last_step-append d xs (ys ++ s ∷ []) ∙ last_step-push (last_step d xs) ys s

last_step-three : (d : Step) (xs ys zs : List Step) (s : Step) → last_step d (xs ++ (ys ++ (zs ++ s ∷ []))) ≡ s
last_step-three d xs ys zs s = last_step-append d xs (ys ++ (zs ++ s ∷ [])) ∙ last_step-two (last_step d xs) ys zs s

compound_of : (xs : List Written) (t : Tree) (at : ℕ) → last_step step.Group (postfix t) ≡ step.Compound at → (ts : Writtens) × (meaning xs t ≡ Node (name_at xs at) ts)
compound_of xs (Single i) at e = absurd (cc)
compound_of xs (Positive n) at e = absurd (cc)
compound_of xs (Negative sign i n) at e = absurd (cc)
compound_of xs (Prefix o t) at e = absurd (clash (sym (last_step-push step.Group (postfix t) (step.Prefix (place o))) ∙ e))
  where
    clash : step.Prefix (place o) ≡ step.Compound at → ⊥
    clash k = cc
compound_of xs (Infix l o r) at e = absurd (clash (sym (last_step-two step.Group (postfix l) (postfix r) (step.Infix (place o))) ∙ e))
  where
    clash : step.Infix (place o) ≡ step.Compound at → ⊥
    clash k = cc
compound_of xs (Group t) at e = absurd (clash (sym (last_step-push step.Group (postfix t) step.Group) ∙ e))
  where
    clash : step.Group ≡ step.Compound at → ⊥
    clash k = cc
compound_of xs (Compound i n items t) at e = (arguments xs items (Cons (meaning xs t) Nil), ap (λ k. Node (name_at xs k) (arguments xs items (Cons (meaning xs t) Nil))) (same (sym (last_step-two step.Group (posts items) (postfix t) (step.Compound i)) ∙ e)))
  where
    same : step.Compound i ≡ step.Compound at → i ≡ at
    same k = cc
compound_of xs Empty at e = absurd (cc)
compound_of xs (Listed items t) at e = absurd (clash (sym (last_step-two step.Group (posts items) (postfix t) step.List) ∙ e))
  where
    clash : step.List ≡ step.Compound at → ⊥
    clash k = cc
compound_of xs (Tailed items t u) at e = absurd (clash (sym (last_step-three step.Group (posts items) (postfix t) (postfix u) step.Tailed) ∙ e))
  where
    clash : step.Tailed ≡ step.Compound at → ⊥
    clash k = cc

-- a term whose last step makes a compound
pub ends_compound : (xs : List Written) (t : Tree) (front steps : List Step) (at : ℕ) → steps ≡ front ++ step.Compound at ∷ [] → steps ≡ postfix t → (ts : Writtens) × (meaning xs t ≡ Node (name_at xs at) ts)
ends_compound xs t front steps at e f = compound_of xs t at (ap (last_step step.Group) (sym f ∙ e) ∙ last_step-push step.Group front (step.Compound at))

-- ---- its form

abbrev of_one : Bool → Bool → Bool → Bool → Form
of_one ground ask variable body = record { variable = false; checks = ground && variable; condition = ground && variable; conditional = false; body = true; head = true; clause = true; query = if ask then body else true }

one : (ground ask variable body : Bool) → ground ≡ false → ask ≡ false → of_one ground ask variable body ≡ plain
one false false variable body e f = refl
one false true variable body e f = absurd (false≢true (sym f))
one true ask variable body e f = absurd (false≢true (sym e))

abbrev of_two : Connective → Bool → Bool → Bool → Bool → Bool → Bool → Bool → Bool → Form
of_two c indep neck both pair bodies group conditional rule = record {
  variable = false;
  checks = are_both_checks c both (indep && pair);
  condition = are_both_checks c both (indep && pair);
  conditional = is_conditional_named c;
  body = is_body_named c bodies group conditional;
  head = is_head_named c;
  clause = if neck then rule else is_head_named c;
  query = is_body_named c bodies group conditional;
}

two : (c : Connective) (indep neck both pair bodies group conditional rule : Bool) → is_head_named c ≡ true → indep ≡ false → neck ≡ false → of_two c indep neck both pair bodies group conditional rule ≡ plain
two Other false false both pair bodies group conditional rule h e f = refl
two Other false true both pair bodies group conditional rule h e f = absurd (false≢true (sym f))
two Other true neck both pair bodies group conditional rule h e f = absurd (false≢true (sym e))
two And indep neck both pair bodies group conditional rule h e f = absurd (false≢true h)
two Or indep neck both pair bodies group conditional rule h e f = absurd (false≢true h)
two Par indep neck both pair bodies group conditional rule h e f = absurd (false≢true h)
two If indep neck both pair bodies group conditional rule h e f = absurd (false≢true h)

both_true : (a b : Bool) → (a && b) ≡ true → (a ≡ true) × (b ≡ true)
both_true true true e = (refl, refl)
both_true true false e = absurd (false≢true e)
both_true false b e = absurd (false≢true e)

not_true : (a : Bool) → not a ≡ true → a ≡ false
not_true false e = refl
not_true true e = absurd (false≢true e)

pub plain_compound : (f : Text) (ts : Writtens) → is_plain_name f ≡ true → form_of (Node f ts) ≡ plain
plain_compound f Nil h = refl
plain_compound f (Cons a Nil) h =
    let named = both_true _ _ h in
    let neck = both_true _ _ named.1 in
    let ask = both_true _ _ neck.1 in
    let ground = both_true _ _ ask.1 in
    one (bytes_eq f (codes "ground")) (bytes_eq f (codes "?-")) (is_variable a) (is_body a) (not_true _ ground.0) (not_true _ ask.0)
plain_compound f (Cons a (Cons b Nil)) h =
    let named = both_true _ _ h in
    let neck = both_true _ _ named.1 in
    let ask = both_true _ _ neck.1 in
    let ground = both_true _ _ ask.1 in
    two (connective f) (bytes_eq f (codes "indep")) (bytes_eq f (codes ":-")) (are_checks a && are_checks b) (is_variable a && is_variable b) (is_body a && is_body b)
    ((not (is_conditional a) && is_body a) && (not (is_conditional b) && is_body b)) (is_condition a && is_body b) (is_head a && is_body b) named.0 (not_true _ ground.1) (not_true _ neck.0)
plain_compound f (Cons a (Cons b (Cons c ts))) h = refl

pub plain_meaning : (f : Text) (x : Written) → is_plain_name f ≡ true → (ts : Writtens) × (x ≡ Node f ts) → plain ≡ form_of x
plain_meaning f x h is = sym (ap form_of is.1 ∙ plain_compound f is.0 h)
