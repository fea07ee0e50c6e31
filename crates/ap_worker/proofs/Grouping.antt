-- Whether there is a group, goal by goal and clause by clause.
use Rattle.std.proofs.Common.{◌≡◌, ℕ, ◌+◌, ◌<◌, ◌≤◌, Bool, true, false, ◌||◌, List, [], ◌∷◌, ◌++◌, length, drop, get_or, map, refl, ap, sym, ◌∙◌}
use Rattle.std.specs.List.{list_any}
use Rattle.std.proofs.lemmas.List.{drop_more, drop_all}
use Rattle.ap_term.specs.Goals.{Part, call, group, Clause, Program, Query, joined}
use Rattle.ap_term.proofs.GoalLists.{any-turn, any-found, any-done}
use Rattle.ap_open.specs.Ungrouped.{AreCalls, IsUngrouped}
use Rattle.ap_worker.specs.Grouped.{is_group, is_grouped}

-- ---- one element more

any-more : {X : Type 0} (f : X → Bool) (xs : List X) (i : ℕ) (x : X) → i < length xs → x ≡ get_or xs i x → list_any f (drop i xs) ≡ (f x || list_any f (drop (i + 1) xs))
any-more f xs i x l e = ap (list_any f) (drop_more xs i x l ∙ ap (λ y. y ∷ drop (i + 1) xs) (sym e))

-- ---- goals

pub ruleset rules_of_parts = (any-turn, any-found, any-done)

-- ---- clauses

pub clause-turn : (cs : List Clause) (i : ℕ) (c : Clause) (whole : Bool) → i < length cs → c ≡ get_or cs i c → is_grouped c ≡ false → list_any is_grouped (drop i cs) ≡ whole → list_any is_grouped (drop (i + 1) cs) ≡ whole
clause-turn cs i c whole l e h k = ap (λ b. b || list_any is_grouped (drop (i + 1) cs)) (sym h) ∙ sym (any-more is_grouped cs i c l e) ∙ k

pub clause-found : (cs : List Clause) (i : ℕ) (c : Clause) (whole : Bool) → i < length cs → c ≡ get_or cs i c → is_grouped c ≡ true → list_any is_grouped (drop i cs) ≡ whole → true ≡ whole
clause-found cs i c whole l e h k = ap (λ b. b || list_any is_grouped (drop (i + 1) cs)) (sym h) ∙ sym (any-more is_grouped cs i c l e) ∙ k

pub clause-done : (cs : List Clause) (i : ℕ) (whole : Bool) → length cs ≤ i → list_any is_grouped (drop i cs) ≡ whole → false ≡ whole
clause-done cs i whole l k = ap (list_any is_grouped) (sym (drop_all i cs l)) ∙ k

pub ruleset rules_of_clauses = (clause-turn, clause-found, clause-done)

-- ---- a program and a query

or-assoc : (a b c : Bool) → (a || (b || c)) ≡ ((a || b) || c)
or-assoc true b c = refl
or-assoc false b c = refl

pub any-joined : (p : Program) (q : Query) → list_any is_grouped (joined p q) ≡ ((list_any is_grouped p || is_grouped q.question) || list_any is_grouped q.lifted)
any-joined [] q = refl
any-joined (c ∷ p) q = ap (λ b. is_grouped c || b) (any-joined p q) ∙ or-assoc (is_grouped c) (list_any is_grouped p || is_grouped q.question) (list_any is_grouped q.lifted)
    ∙ ap (λ b. b || list_any is_grouped q.lifted) (or-assoc (is_grouped c) (list_any is_grouped p) (is_grouped q.question))

pub ruleset rules_of_programs = (any-joined)

calls-ungrouped : (ps : List Part) → AreCalls ps → list_any is_group ps ≡ false
calls-ungrouped [] h = refl
calls-ungrouped (call g ∷ ps) h = calls-ungrouped ps h
calls-ungrouped (group cs gs ∷ ps) h = absurd h

pub none-grouped : (p : Program) → IsUngrouped p → list_any is_grouped p ≡ false
none-grouped [] h = refl
none-grouped (c ∷ p) h = ap (λ b. b || list_any is_grouped p) (calls-ungrouped c.body h.0) ∙ none-grouped p h.1

pub ruleset rules_of_workers = (none-grouped)
