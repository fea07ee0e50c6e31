-- What an annotator keeps, and what it makes.
use Rattle.std.proofs.Common.{◌≡◌, ℕ, ◌+◌, ◌<◌, ◌≤◌, inl, inr, Bool, true, false, ◌&&◌, not, nat_le, if◌then◌else◌, List, [], ◌∷◌, ◌++◌, length, take, drop, get_or, refl, ap, sym, ◌∙◌, subst, arith}
use Rattle.std.specs.List.{list_all, list_any, filter, flat_map, All}
use Rattle.std.proofs.lemmas.Bool.{false≢true, and_parts, and_from, le-leb, not-true}
use Rattle.std.proofs.lemmas.List.{take-append-drop, take_more}
use Rattle.std.proofs.lemmas.List.Folds.{list_all-append}
use Rattle.std.proofs.lemmas.List.Elements.{All-nil, All-cons}
use Rattle.std.proofs.lemmas.Grind.{flat_map-append}
use Rattle.ap_term.specs.declared.clauses.Check.{Check}
use Rattle.ap_term.specs.Tree.{Tree, Trees, count_trees}
use Rattle.ap_term.specs.Goals.{Part, call, group, calls, Clause, Program}
use Rattle.ap_term.specs.Independence.{IsInFullCondition, of_shared, of_others}
use Rattle.ap_term.specs.WellFormed.{in_range, callable, all_callable, numbered, numbered_all, numbered_check, well_formed_part, IsClause}
use Rattle.ap_absunify.specs.declared.states.State.{State}
use Rattle.ap_patterns.specs.Given.{Patterns, is_builtin, is_analysed, after_part}
use Rattle.ap_conditions.specs.FullCondition.{full_condition}
use Rattle.ap_conditions.specs.Simplified.{gives, left}
use Rattle.ap_conditions.specs.Laws.{IsIn}
use Rattle.ap_conditions.proofs.Listed.{listed-full, shared_occurs, two_occur, numbered_all-in}
use Rattle.ap_cge.specs.Stripped.{stripped_part, stripped_clause, stripped}
use Rattle.ap_certify.specs.Written.{is_written}
use Rattle.ap_udg.specs.declared.runs.Rule.{Rule}
use Rattle.ap_udg.specs.Runs.{is_user_call, goals_of}
use Rattle.ap_udg.specs.Grouped.{IsNext, Grouped, alone, together, done, next}
use Rattle.ap_udg.specs.Completed.{missing, completed, behind, completed_body, start}
use Rattle.ap_udg.specs.Annotated.{is_group, has_groups, IsBody, IsAnnotatedClause, IsAnnotated}
use Rattle.ap_udg.specs.Laws.{AreUserGoals, IsMade, AnnotatedLaw}
use Rattle.ap_udg.proofs.LongestRuns.{count-goals, first-formed, last-formed}

-- ---- the checks of a condition are of the goals' variables

pub check_in : (n : ℕ) (gs : Trees) (c : Check) → numbered_all n gs ≡ true → IsInFullCondition gs c → numbered_check n c ≡ true
check_in n gs c h (of_shared x s) = numbered_all-in n gs h x (shared_occurs x gs s)
check_in n gs c h (of_others x y l sx sy o) =
    let r = two_occur x y gs o in and_from (in_range n x) (in_range n y) (numbered_all-in n gs h x r.0) (numbered_all-in n gs h y r.1)

all_from : (p : Check → Bool) (cs : List Check) → ((c : Check) → IsIn c cs → p c ≡ true) → list_all p cs ≡ true
all_from p [] h = refl
all_from p (c ∷ cs) h = and_from (p c) (list_all p cs) (h c (inl refl)) (all_from p cs (λ d i. h d (inr i)))

filtered : (p q : Check → Bool) (cs : List Check) → list_all p cs ≡ true → list_all p (filter q cs) ≡ true
filtered p q [] h = refl
filtered p q (c ∷ cs) h = go (q c) (and_parts (p c) (list_all p cs) h).0 (filtered p q cs (and_parts (p c) (list_all p cs) h).1)
  where
    go : (b : Bool) → p c ≡ true → list_all p (filter q cs) ≡ true → list_all p (if b then c ∷ filter q cs else filter q cs) ≡ true
    go true h k = and_from (p c) (list_all p (filter q cs)) h k
    go false h k = k

of_filtered : (q : Check → Bool) (cs : List Check) (c : Check) → IsIn c (filter q cs) → IsIn c cs
of_filtered q [] c h = h
of_filtered q (d ∷ cs) c h = go (q d) h (λ k. of_filtered q cs c k)
  where
    go : (b : Bool) → IsIn c (if b then d ∷ filter q cs else filter q cs) → (IsIn c (filter q cs) → IsIn c cs) → IsIn c (d ∷ cs)
    go true (inl e) k = inl e
    go true (inr h) k = inr (k h)
    go false h k = inr (k h)

condition-numbered : (n : ℕ) (gs : Trees) → numbered_all n gs ≡ true → list_all (numbered_check n) (full_condition gs) ≡ true
condition-numbered n gs h = all_from (numbered_check n) (full_condition gs) (λ c i. check_in n gs c h (listed-full gs c i))

-- ---- what is made is well formed

pub completed-formed : (n : ℕ) (s : State) (p : Part) → well_formed_part n p ≡ true → well_formed_part n (completed s p) ≡ true
completed-formed n s (call g) h = h
completed-formed n s (group cs gs) h =
    let r = and_parts (list_all (numbered_check n) cs) (nat_le 1 (count_trees gs) && (all_callable gs && numbered_all n gs)) h in
    let a = and_parts (nat_le 1 (count_trees gs)) (all_callable gs && numbered_all n gs) r.1 in
    let b = and_parts (all_callable gs) (numbered_all n gs) a.1 in
    let m = filtered (numbered_check n) (λ c. not (is_written c cs)) (left s (full_condition gs)) (filtered (numbered_check n) (λ c. not (gives s c)) (full_condition gs) (condition-numbered n gs b.1)) in
    and_from (list_all (numbered_check n) (cs ++ missing s cs gs)) (nat_le 1 (count_trees gs) && (all_callable gs && numbered_all n gs))
    (list_all-append (numbered_check n) cs (missing s cs gs) ∙ and_from (list_all (numbered_check n) cs) (list_all (numbered_check n) (missing s cs gs)) r.0 m) r.1

completed_body-formed : (n : ℕ) (analysed : Bool) (t : Patterns) (s : State) (ps : List Part) → list_all (well_formed_part n) ps ≡ true → list_all (well_formed_part n) (completed_body analysed t s ps) ≡ true
completed_body-formed n analysed t s [] h = refl
completed_body-formed n analysed t s (p ∷ ps) h =
    let r = and_parts (well_formed_part n p) (list_all (well_formed_part n) ps) h in
    and_from (well_formed_part n (completed s p)) (list_all (well_formed_part n) (completed_body analysed t (behind analysed t s p) ps)) (completed-formed n s p r.0)
    (completed_body-formed n analysed t (behind analysed t s p) ps r.1)

goals-formed : (n : ℕ) (ps : List Part) → list_all (well_formed_part n) ps ≡ true → (all_callable (goals_of ps) ≡ true) × (numbered_all n (goals_of ps) ≡ true)
goals-formed n [] h = (refl, refl)
goals-formed n (call g ∷ ps) h =
    let r = and_parts (well_formed_part n (call g)) (list_all (well_formed_part n) ps) h in
    let a = and_parts (callable g) (numbered n g) r.0 in
    let k = goals-formed n ps r.1 in
    (and_from (callable g) (all_callable (goals_of ps)) a.0 k.0, and_from (numbered n g) (numbered_all n (goals_of ps)) a.1 k.1)
goals-formed n (group cs gs ∷ ps) h = goals-formed n ps (and_parts (well_formed_part n (group cs gs)) (list_all (well_formed_part n) ps) h).1

first_one : (p : Part → Bool) (ps : List Part) (q : Part) → take 1 ps ≡ q ∷ [] → list_all p ps ≡ true → p q ≡ true
first_one p [] q e h = absurd (cc)
first_one p (r ∷ ps) q e h = let same : q ≡ r = cc in ap p same ∙ (and_parts (p r) (list_all p ps) h).0

next_formed : (n : ℕ) (r : Rule) (s : State) (ps : List Part) (k : ℕ) (p : Part) → IsNext r s ps k p → list_all (well_formed_part n) ps ≡ true → well_formed_part n p ≡ true
next_formed n r s ps i q (alone m k p l one e h) w = first_one (well_formed_part n) ps p h w
next_formed n r s ps i q (together k p l two h) w =
    let gs = goals_of (take k ps) in
    let f = goals-formed n (take k ps) (first-formed (well_formed_part n) ps k w) in
    let count : count_trees gs ≡ k = count-goals ps k l.run.there l.run.user in
    let some : 1 ≤ count_trees gs = omega arith in
    ap (well_formed_part n) h
    ∙ and_from (list_all (numbered_check n) (left s (full_condition gs))) (nat_le 1 (count_trees gs) && (all_callable gs && numbered_all n gs))
    (filtered (numbered_check n) (λ c. not (gives s c)) (full_condition gs) (condition-numbered n gs f.1))
    (and_from (nat_le 1 (count_trees gs)) (all_callable gs && numbered_all n gs) (le-leb 1 (count_trees gs) some) (and_from (all_callable gs) (numbered_all n gs) f.0 f.1))

grouped-formed : (n : ℕ) (r : Rule) (t : Patterns) (s : State) (ps qs : List Part) → Grouped r t s ps qs → list_all (well_formed_part n) ps ≡ true → list_all (well_formed_part n) qs ≡ true
grouped-formed n r t s0 ps0 qs0 (done s ps e) w = refl
grouped-formed n r t s0 ps0 qs0 (next s ps k p qs i g) w =
    and_from (well_formed_part n p) (list_all (well_formed_part n) qs) (next_formed n r s ps k p i w)
    (grouped-formed n r t (after_part t s p) (drop k ps) qs g (last-formed (well_formed_part n) ps k w))

pub body-formed : (hand analysed : Bool) (r : Rule) (t : Patterns) (c : Clause) (body : List Part) → IsBody hand analysed r t c body → list_all (well_formed_part c.vars) c.body ≡ true
    → list_all (well_formed_part c.vars) body ≡ true
body-formed true analysed r t c body b h = ap (list_all (well_formed_part c.vars)) b ∙ completed_body-formed c.vars analysed t (start t c) c.body h
body-formed false true r t c body b h = grouped-formed c.vars r t (start t c) c.body body b h
body-formed false false r t c body b h = ap (list_all (well_formed_part c.vars)) b ∙ h

pub clause-formed : (r : Rule) (t : Patterns) (c : Clause) (head : Tree) (body : List Part) (vars line : ℕ) → IsClause c → head ≡ c.head → IsBody (has_groups c) (is_analysed c) r t c body → vars ≡ c.vars
    → IsClause (record { head = head; body = body; vars = vars; line = line })
clause-formed r t c head body vars line h e b v = record {
  few = subst (λ n. n ≤ 255) (sym v) h.few;
  head = subst (λ n. callable head && numbered n head ≡ true) (sym v) (ap (λ x. callable x && numbered c.vars x) e ∙ h.head);
  body = subst (λ n. list_all (well_formed_part n) body ≡ true) (sym v) (body-formed (has_groups c) (is_analysed c) r t c body b h.body);
}

pub annotated-more : (r : Rule) (t : Patterns) (P A : Program) (c d : Clause) → IsAnnotated r t P A → IsAnnotatedClause r t c d → IsAnnotated r t (P ++ c ∷ []) (A ++ d ∷ [])
annotated-more r t [] [] c d h k = (k, refl)
annotated-more r t [] (a ∷ A) c d h k = absurd (cc)
annotated-more r t (p ∷ P) [] c d h k = absurd h
annotated-more r t (p ∷ P) (a ∷ A) c d h k = (h.0, annotated-more r t P A c d h.1 k)

pub annotated-turn : (r : Rule) (t : Patterns) (P A new : Program) (i : ℕ) (c d : Clause) → i < length P → c ≡ get_or P i c → new ≡ A ++ d ∷ [] → IsAnnotated r t (take i P) A → IsAnnotatedClause r t c d
    → IsAnnotated r t (take (i + 1) P) new
annotated-turn r t P A new i c d l e n h k =
    let one = annotated-more r t (take i P) A c d h k in
    let two = subst (λ p. IsAnnotated r t p (A ++ d ∷ [])) (sym (take_more P i c l ∙ ap (λ x. take i P ++ x ∷ []) (sym e))) one in
    subst (IsAnnotated r t (take (i + 1) P)) (sym n) two

-- ---- without groups it is what it was

completed-stripped : (analysed : Bool) (t : Patterns) (s : State) (ps : List Part) → flat_map stripped_part (completed_body analysed t s ps) ≡ flat_map stripped_part ps
completed-stripped analysed t s [] = refl
completed-stripped analysed t s (call g ∷ ps) = ap (λ qs. call g ∷ qs) (completed-stripped analysed t (behind analysed t s (call g)) ps)
completed-stripped analysed t s (group cs gs ∷ ps) = ap (λ qs. calls gs ++ qs) (completed-stripped analysed t (behind analysed t s (group cs gs)) ps)

run_calls : (ps : List Part) → list_all is_user_call ps ≡ true → calls (goals_of ps) ≡ flat_map stripped_part ps
run_calls [] h = refl
run_calls (call g ∷ ps) h = ap (λ qs. call g ∷ qs) (run_calls ps (and_parts (is_user_call (call g)) (list_all is_user_call ps) h).1)
run_calls (group cs gs ∷ ps) h = absurd (false≢true h)

first_stripped : (ps : List Part) (p : Part) → take 1 ps ≡ p ∷ [] → stripped_part p ++ flat_map stripped_part (drop 1 ps) ≡ flat_map stripped_part ps
first_stripped [] p e = absurd (cc)
first_stripped (q ∷ ps) p e = let same : p ≡ q = cc in ap (λ z. stripped_part z ++ flat_map stripped_part ps) same

next_stripped : (r : Rule) (s : State) (ps : List Part) (k : ℕ) (p : Part) → IsNext r s ps k p → stripped_part p ++ flat_map stripped_part (drop k ps) ≡ flat_map stripped_part ps
next_stripped r s ps i q (alone m k p l one e h) = ap (λ n. stripped_part p ++ flat_map stripped_part (drop n ps)) e ∙ first_stripped ps p h
next_stripped r s ps i q (together k p l two h) =
    ap (λ z. stripped_part z ++ flat_map stripped_part (drop k ps)) h ∙ ap (λ z. z ++ flat_map stripped_part (drop k ps)) (run_calls (take k ps) l.run.user)
    ∙ sym (flat_map-append stripped_part (take k ps) (drop k ps)) ∙ ap (flat_map stripped_part) (take-append-drop k ps)

grouped-stripped : (r : Rule) (t : Patterns) (s : State) (ps qs : List Part) → Grouped r t s ps qs → flat_map stripped_part qs ≡ flat_map stripped_part ps
grouped-stripped r t s0 ps0 qs0 (done s ps e) = sym (ap (flat_map stripped_part) e)
grouped-stripped r t s0 ps0 qs0 (next s ps k p qs i g) = ap (λ z. stripped_part p ++ z) (grouped-stripped r t (after_part t s p) (drop k ps) qs g) ∙ next_stripped r s ps k p i

body-stripped : (hand analysed : Bool) (r : Rule) (t : Patterns) (c : Clause) (body : List Part) → IsBody hand analysed r t c body → flat_map stripped_part body ≡ flat_map stripped_part c.body
body-stripped true analysed r t c body b = ap (flat_map stripped_part) b ∙ completed-stripped analysed t (start t c) c.body
body-stripped false true r t c body b = grouped-stripped r t (start t c) c.body body b
body-stripped false false r t c body b = ap (flat_map stripped_part) b

pub same_stripped : (c d : Clause) → d.head ≡ c.head → flat_map stripped_part d.body ≡ flat_map stripped_part c.body → d.vars ≡ c.vars → d.line ≡ c.line → stripped_clause d ≡ stripped_clause c
same_stripped c d h b v l =
    ap (λ x. record { head = x; body = flat_map stripped_part d.body; vars = d.vars; line = d.line }) h
    ∙ ap (λ x. record { head = c.head; body = x; vars = d.vars; line = d.line }) b
    ∙ ap (λ x. record { head = c.head; body = flat_map stripped_part c.body; vars = x; line = d.line }) v
    ∙ ap (λ x. record { head = c.head; body = flat_map stripped_part c.body; vars = c.vars; line = x }) l

clause-stripped : (r : Rule) (t : Patterns) (c d : Clause) → IsAnnotatedClause r t c d → stripped_clause d ≡ stripped_clause c
clause-stripped r t c d h = same_stripped c d h.head (body-stripped (has_groups c) (is_analysed c) r t c d.body h.body) h.vars h.line

pub program-stripped : (r : Rule) (t : Patterns) (P A : Program) → IsAnnotated r t P A → stripped A ≡ stripped P
program-stripped r t [] A h = ap stripped h
program-stripped r t (c ∷ cs) [] h = absurd h
program-stripped r t (c ∷ cs) (d ∷ ds) h =
    ap (λ x. x ∷ stripped ds) (clause-stripped r t c d h.0) ∙ ap (λ xs. stripped_clause c ∷ xs) (program-stripped r t cs ds h.1)

-- ---- which groups are made

user_goals : (ps : List Part) → list_all is_user_call ps ≡ true → AreUserGoals (goals_of ps)
user_goals [] h = tt
user_goals (call g ∷ ps) h =
    let r = and_parts (is_user_call (call g)) (list_all is_user_call ps) h in (not-true (is_builtin g) r.0, user_goals ps r.1)
user_goals (group cs gs ∷ ps) h = absurd (false≢true h)

no_group : Part → Bool
no_group p = not (is_group p)

call_made : (p : Part) → no_group p ≡ true → IsMade p
unfolding no_group
call_made (call g) h = tt
call_made (group cs gs) h = absurd (false≢true h)

none_of : (ps : List Part) → list_any is_group ps ≡ false → list_all no_group ps ≡ true
unfolding no_group
none_of [] h = refl
none_of (call g ∷ ps) h = none_of ps h
none_of (group cs gs ∷ ps) h = absurd (false≢true (sym h))

next_made : (r : Rule) (s : State) (ps : List Part) (k : ℕ) (p : Part) → IsNext r s ps k p → list_all no_group ps ≡ true → IsMade p
next_made r s ps i q (alone m k p l one e h) w = call_made p (first_one no_group ps p h w)
next_made r s ps i q (together k p l two h) w =
    let count : count_trees (goals_of (take k ps)) ≡ k = count-goals ps k l.run.there l.run.user in
    let few : k ≤ 32 = l.run.few in
    subst IsMade (sym h) (record {
      several = omega arith;
      few = omega arith;
      user = user_goals (take k ps) l.run.user;
      checks = λ c m. listed-full (goals_of (take k ps)) c (of_filtered (λ d. not (gives s d)) (full_condition (goals_of (take k ps))) c m);
    })

grouped-made : (r : Rule) (t : Patterns) (s : State) (ps qs : List Part) → Grouped r t s ps qs → list_all no_group ps ≡ true → All IsMade qs
grouped-made r t s0 ps0 qs0 (done s ps e) w = All-nil IsMade
grouped-made r t s0 ps0 qs0 (next s ps k p qs i g) w =
    All-cons IsMade p qs (next_made r s ps k p i w) (grouped-made r t (after_part t s p) (drop k ps) qs g (last-formed no_group ps k w))

calls_made : (ps : List Part) → list_all no_group ps ≡ true → All IsMade ps
calls_made [] h = All-nil IsMade
calls_made (p ∷ ps) h = let r = and_parts (no_group p) (list_all no_group ps) h in All-cons IsMade p ps (call_made p r.0) (calls_made ps r.1)

body_made : (hand analysed : Bool) (r : Rule) (t : Patterns) (c : Clause) (body : List Part) → IsBody hand analysed r t c body → hand ≡ false → list_any is_group c.body ≡ false → All IsMade body
body_made true analysed r t c body b e h = absurd (false≢true (sym e))
body_made false true r t c body b e h = grouped-made r t (start t c) c.body body b (none_of c.body h)
body_made false false r t c body b e h = subst (All IsMade) (sym b) (calls_made c.body (none_of c.body h))

pub annotated : AnnotatedLaw
annotated = record {
  stripped = λ r t P A h. program-stripped r t P A h;
  groups = λ r t c d h e. body_made (has_groups c) (is_analysed c) r t c d.body h.body e e;
}

pub annotated-length : (r : Rule) (t : Patterns) (P A : Program) → IsAnnotated r t P A → length P ≡ length A
annotated-length r t [] A h = sym (ap length h)
annotated-length r t (c ∷ cs) [] h = absurd h
annotated-length r t (c ∷ cs) (d ∷ ds) h = let k : length cs ≡ length ds = annotated-length r t cs ds h.1 in omega arith
