-- What is never reached gives nothing new.
use Rattle.std.proofs.Common.{◌≡◌, ◌⊎◌, inl, inr, ℕ, ◌+◌, nat_eq, Bool, true, false, cond, not, List, [], ◌∷◌, ◌++◌, Option, Some, None, append_assoc, append-nil, refl, ap, ap₂, sym, ◌∙◌, subst}
use Rattle.std.proofs.lemmas.List.Elements.{filter-append}
use Rattle.std.specs.List.{flat_map}
use Rattle.ap_term.specs.declared.builtins.Relation.{Relation}
use Rattle.ap_term.specs.declared.builtins.Relation.TheVariants.{Unify, NotUnify, Same, NotSame, Is, Compare}
use Rattle.ap_term.specs.declared.fixed.TheConstants.{FAIL}
use Rattle.ap_term.specs.Tree.{Tree, Trees, var, int, atom, node, none, more}
use Rattle.ap_term.specs.Builtins.{relation_named}
use Rattle.ap_term.specs.Goals.{Part, call, group, Clause}
use Rattle.ap_absunify.specs.declared.states.State.{State}
use Rattle.ap_absunify.specs.declared.states.State.TheVariants.{Unreachable}
use Rattle.ap_absunify.specs.State.{project}
use Rattle.ap_absunify.specs.AfterEqual.{parts}
use Rattle.ap_absunify.specs.AfterBuiltin.{after_relation, after_builtin}
use Rattle.ap_absunify.proofs.Parts.{after_parts-unreachable}
use Rattle.ap_patterns.specs.declared.tables.Predicate.{Predicate}
use Rattle.ap_patterns.specs.declared.slots.Given.{Given}
use Rattle.ap_patterns.specs.Places.{arguments, call_pattern}
use Rattle.ap_patterns.specs.Entering.{own, head_equations, enter}
use Rattle.ap_patterns.specs.Table.{predicate_of}
use Rattle.ap_patterns.specs.Given.{Patterns, call_at, is_builtin, is_analysed, to_call, to_success, after_goal, after_goals, after_part, after_body, given_by_goal, given_in_turn, given_at_fork, given_by_part, given_by_body, given_from, given_anyhow, given_by_all, given_by_any_part, given_unanalysed, given_by_clause}
use Rattle.ap_patterns.specs.Covered.{is_covered}
use Rattle.ap_fixpoint.specs.Uncovered.{is_new, uncovered, given_on}
use Rattle.ap_fixpoint.proofs.Members.{Has}

-- ---- what is left out is covered

pub uncovered-Has : (t : Patterns) (gs : List Given) (g : Given) → Has g (uncovered t gs) → Has g gs
uncovered-Has t [] g h = h
uncovered-Has t (f ∷ gs) g h = go (is_covered f.pattern (t f.slot)) h (uncovered-Has t gs g)
  where
    go : (b : Bool) → Has g (cond (not b) (f ∷ uncovered t gs) (uncovered t gs)) → (Has g (uncovered t gs) → Has g gs) → Has g (f ∷ gs)
    go true i ih = inr (ih i)
    go false (inl i) ih = inl i
    go false (inr i) ih = inr (ih i)

pub uncovered-cases : (t : Patterns) (gs : List Given) (g : Given) → Has g gs → Has g (uncovered t gs) ⊎ (is_covered g.pattern (t g.slot) ≡ true)
uncovered-cases t [] g h = absurd h
uncovered-cases t (f ∷ gs) g (inl e) = go (is_covered f.pattern (t f.slot)) refl
  where
    go : (b : Bool) → is_covered f.pattern (t f.slot) ≡ b → Has g (cond (not b) (f ∷ uncovered t gs) (uncovered t gs)) ⊎ (is_covered g.pattern (t g.slot) ≡ true)
    go true i = inr (subst (λ z. is_covered z.pattern (t z.slot) ≡ true) (sym e) i)
    go false i = inl (inl e)
uncovered-cases t (f ∷ gs) g (inr k) = elim (uncovered-cases t gs g k) [ inl i ↦ inl (later (is_covered f.pattern (t f.slot)) i) | inr i ↦ inr i ]
  where
    later : (b : Bool) → Has g (uncovered t gs) → Has g (cond (not b) (f ∷ uncovered t gs) (uncovered t gs))
    later true i = i
    later false i = inr i

pub nothing-covered : (t : Patterns) (gs : List Given) → uncovered t gs ≡ [] → (g : Given) → Has g gs → is_covered g.pattern (t g.slot) ≡ true
nothing-covered t gs e g h = elim (uncovered-cases t gs g h) [ inl i ↦ absurd (subst (Has g) e i) | inr i ↦ i ]

pub nothing-append : (t : Patterns) (xs ys : List Given) → uncovered t xs ≡ [] → uncovered t ys ≡ [] → uncovered t (xs ++ ys) ≡ []
nothing-append t xs ys h k = filter-append (is_new t) xs ys ∙ ap₂ (λ a b. a ++ b) h k

pub covered-nothing : (t : Patterns) (g : Given) → is_covered g.pattern (t g.slot) ≡ true → uncovered t (g ∷ []) ≡ []
covered-nothing t g h = ap (λ b. cond (not b) (g ∷ []) []) h

-- ---- goals in a state that is never reached

unreached_call : (t : Patterns) (p : Option Predicate) → uncovered t (to_call p Unreachable) ≡ []
unreached_call t None = refl
unreached_call t (Some p) = refl

unreached_success : (t : Patterns) (p : Option Predicate) → uncovered t (to_success p Unreachable) ≡ []
unreached_success t None = refl
unreached_success t (Some p) = refl

unreached_goal : (t : Patterns) (g : Tree) → uncovered t (given_by_goal Unreachable g) ≡ []
unreached_goal t g = go (is_builtin g)
  where
    go : (b : Bool) → uncovered t (cond b [] (to_call (predicate_of g) Unreachable)) ≡ []
    go true = refl
    go false = unreached_call t (predicate_of g)

after_relation-unreached : (r : Option Relation) (a b : Tree) → after_relation Unreachable r a b ≡ Unreachable
after_relation-unreached None a b = refl
after_relation-unreached (Some Unify) a b = after_parts-unreachable (parts a b)
after_relation-unreached (Some NotUnify) a b = refl
after_relation-unreached (Some Same) a b = refl
after_relation-unreached (Some NotSame) a b = refl
after_relation-unreached (Some Is) a b = refl
after_relation-unreached (Some (Compare o)) a b = refl

after_builtin-unreached : (g : Tree) → after_builtin Unreachable g ≡ Unreachable
after_builtin-unreached (var x) = refl
after_builtin-unreached (int z) = refl
after_builtin-unreached (atom a) = go (nat_eq a FAIL)
  where
    go : (b : Bool) → cond b Unreachable Unreachable ≡ Unreachable
    go true = refl
    go false = refl
after_builtin-unreached (node a none) = refl
after_builtin-unreached (node a (more t none)) = refl
after_builtin-unreached (node a (more t (more u none))) = after_relation-unreached (relation_named a) t u
after_builtin-unreached (node a (more t (more u (more v ts)))) = refl

after_goal-unreached : (t : Patterns) (g : Tree) → after_goal t Unreachable g ≡ Unreachable
after_goal-unreached t g = go (is_builtin g)
  where
    go : (b : Bool) → cond b (after_builtin Unreachable g) Unreachable ≡ Unreachable
    go true = after_builtin-unreached g
    go false = refl

pub after_goals-unreached : (t : Patterns) (gs : Trees) → after_goals t Unreachable gs ≡ Unreachable
after_goals-unreached t none = refl
after_goals-unreached t (more g gs) = ap (λ z. after_goals t z gs) (after_goal-unreached t g) ∙ after_goals-unreached t gs

after_part-unreached : (t : Patterns) (p : Part) → after_part t Unreachable p ≡ Unreachable
after_part-unreached t (call g) = after_goal-unreached t g
after_part-unreached t (group cs gs) = after_goals-unreached t gs

after_body-unreached : (t : Patterns) (ps : List Part) → after_body t Unreachable ps ≡ Unreachable
after_body-unreached t [] = refl
after_body-unreached t (p ∷ ps) = ap (λ z. after_body t z ps) (after_part-unreached t p) ∙ after_body-unreached t ps

unreached_at_fork : (t : Patterns) (gs : Trees) → uncovered t (given_at_fork Unreachable gs) ≡ []
unreached_at_fork t none = refl
unreached_at_fork t (more g gs) = nothing-append t (given_by_goal Unreachable g) (given_at_fork Unreachable gs) (unreached_goal t g) (unreached_at_fork t gs)

unreached_in_turn : (t : Patterns) (gs : Trees) → uncovered t (given_in_turn t Unreachable gs) ≡ []
unreached_in_turn t none = refl
unreached_in_turn t (more g gs) =
    nothing-append t (given_by_goal Unreachable g) (given_in_turn t (after_goal t Unreachable g) gs) (unreached_goal t g)
    (ap (λ z. uncovered t (given_in_turn t z gs)) (after_goal-unreached t g) ∙ unreached_in_turn t gs)

unreached_part : (t : Patterns) (p : Part) → uncovered t (given_by_part t Unreachable p) ≡ []
unreached_part t (call g) = unreached_goal t g
unreached_part t (group cs gs) = nothing-append t (given_at_fork Unreachable gs) (given_in_turn t Unreachable gs) (unreached_at_fork t gs) (unreached_in_turn t gs)

unreached_body : (t : Patterns) (ps : List Part) → uncovered t (given_by_body t Unreachable ps) ≡ []
unreached_body t [] = refl
unreached_body t (p ∷ ps) =
    nothing-append t (given_by_part t Unreachable p) (given_by_body t (after_part t Unreachable p) ps) (unreached_part t p)
    (ap (λ z. uncovered t (given_by_body t z ps)) (after_part-unreached t p) ∙ unreached_body t ps)

pub unreached_on : (t : Patterns) (head : Tree) (ps : List Part) → uncovered t (given_on t head Unreachable ps) ≡ []
unreached_on t head ps =
    nothing-append t (given_by_body t Unreachable ps) (to_success (predicate_of head) (call_pattern (after_body t Unreachable ps) head)) (unreached_body t ps)
    (ap (λ z. uncovered t (to_success (predicate_of head) (call_pattern z head))) (after_body-unreached t ps) ∙ unreached_success t (predicate_of head))

-- ---- clauses that are never called

enter-unreached : (n : ℕ) (head : Tree) → enter n head Unreachable ≡ Unreachable
enter-unreached n head = ap (λ z. project z (own n)) (after_parts-unreachable (Some (head_equations (n + 1) (arguments head))))

unreached_anyhow : (t : Patterns) (g : Tree) → uncovered t (given_anyhow Unreachable g) ≡ []
unreached_anyhow t g = go (is_builtin g)
  where
    go : (b : Bool) → uncovered t (cond b [] (to_call (predicate_of g) Unreachable)) ≡ []
    go true = refl
    go false = unreached_call t (predicate_of g)

unreached_all : (t : Patterns) (gs : Trees) → uncovered t (given_by_all Unreachable gs) ≡ []
unreached_all t none = refl
unreached_all t (more g gs) = nothing-append t (given_anyhow Unreachable g) (given_by_all Unreachable gs) (unreached_anyhow t g) (unreached_all t gs)

unreached_any_part : (t : Patterns) (p : Part) → uncovered t (given_by_any_part Unreachable p) ≡ []
unreached_any_part t (call g) = unreached_anyhow t g
unreached_any_part t (group cs gs) = unreached_all t gs

unreached_any_parts : (t : Patterns) (ps : List Part) → uncovered t (flat_map (given_by_any_part Unreachable) ps) ≡ []
unreached_any_parts t [] = refl
unreached_any_parts t (p ∷ ps) = nothing-append t (given_by_any_part Unreachable p) (flat_map (given_by_any_part Unreachable) ps) (unreached_any_part t p) (unreached_any_parts t ps)

unreached_unanalysed : (t : Patterns) (c : Clause) → uncovered t (given_unanalysed Unreachable c) ≡ []
unreached_unanalysed t c =
    nothing-append t (flat_map (given_by_any_part Unreachable) c.body) (to_success (predicate_of c.head) Unreachable) (unreached_any_parts t c.body) (unreached_success t (predicate_of c.head))

pub unreached-clause : (t : Patterns) (c : Clause) → call_at t (predicate_of c.head) ≡ Unreachable → uncovered t (given_by_clause t c) ≡ []
unreached-clause t c h = go (is_analysed c)
  where
    go : (b : Bool) → uncovered t (cond b (given_from t (enter c.vars c.head (call_at t (predicate_of c.head))) c) (given_unanalysed (call_at t (predicate_of c.head)) c)) ≡ []
    go true = ap (λ z. uncovered t (given_from t z c)) (ap (enter c.vars c.head) h ∙ enter-unreached c.vars c.head) ∙ unreached_on t c.head c.body
    go false = ap (λ z. uncovered t (given_unanalysed z c)) h ∙ unreached_unanalysed t c

-- ---- one more of a list

pub uncovered-turn : (t : Patterns) (old new xs rest whole : List Given) → new ≡ old ++ uncovered t xs → old ++ uncovered t (xs ++ rest) ≡ whole → new ++ uncovered t rest ≡ whole
uncovered-turn t old new xs rest whole n w =
    ap (λ z. z ++ uncovered t rest) n ∙ append_assoc old (uncovered t xs) (uncovered t rest) ∙ ap (λ z. old ++ z) (sym (filter-append (is_new t) xs rest)) ∙ w

pub nothing-more : (t : Patterns) (gs xs : List Given) → uncovered t xs ≡ [] → gs ≡ gs ++ uncovered t xs
nothing-more t gs xs h = sym (ap (λ z. gs ++ z) h ∙ append-nil gs)

pub idle-clause : (t : Patterns) (c : Clause) (called : State) (head : Tree) (ps : List Part) (gs : List Given) → head ≡ c.head → ps ≡ c.body → ((s : State) → uncovered t (given_on t head s ps) ≡ [])
    → gs ≡ gs ++ uncovered t (given_from t (enter c.vars c.head called) c)
idle-clause t c called head ps gs h b idle =
    nothing-more t gs (given_on t c.head (enter c.vars c.head called) c.body)
    (ap (λ z. uncovered t (given_on t z (enter c.vars c.head called) c.body)) (sym h) ∙ ap (λ z. uncovered t (given_on t head (enter c.vars c.head called) z)) (sym b) ∙ idle (enter c.vars c.head called))

pub uncalled-clause : (t : Patterns) (c : Clause) (head : Tree) (called : State) (gs : List Given) → head ≡ c.head → called ≡ call_at t (predicate_of head) → called ≡ Unreachable → gs ≡ gs ++ uncovered t (given_by_clause t c)
uncalled-clause t c head called gs h e u = nothing-more t gs (given_by_clause t c) (unreached-clause t c (ap (λ z. call_at t (predicate_of z)) (sym h) ∙ sym e ∙ u))
